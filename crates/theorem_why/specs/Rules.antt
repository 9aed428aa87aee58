-- The checks of a packet by rule, so that a rule can be kept or broken by itself.
use Rattle.std.specs.Prelude.{List, [], ◌∷◌, ◌++◌, ◌≡◌, ℕ, get_or}
use Rattle.basis.specs.Check.{Check, Rule, broken, clear, verdict, when}
use Rattle.read_header.specs.Header.{flags_in, packet_frame_checks, rate_checks, sequence_in}
use Rattle.read_time_code.specs.TimeCode.{time_code_checks}
use Rattle.read_captions.specs.Captions.{captions_checks}
use Rattle.read_services.specs.Services.{services_checks}
use Rattle.read_closing.specs.Closing.{footer_checks, future_sections_checks}
use Rattle.read_packet.specs.Packet.{captions_at, closing_at, footer_at, services_at, time_code_at}

-- rules 2 to 9, a list for each; rule 4 says where values stand, and makes no test
abbrev pub rules_in_order : List ℕ → List (List Check)
rules_in_order p =
    packet_frame_checks p
    ∷ rate_checks p
    ∷ []
    ∷ when (flags_in p).time_code (time_code_checks p time_code_at)
    ∷ when (flags_in p).cc_data (captions_checks p (captions_at p))
    ∷ when (flags_in p).svc_info (services_checks p (flags_in p) (services_at p))
    ∷ future_sections_checks p (closing_at p)
    ∷ footer_checks p (sequence_in p) (footer_at p)
    ∷ []

-- lists of checks, one after the other
abbrev pub one_by_one : List (List Check) → List Check
one_by_one [] = []
one_by_one (cs ∷ lists) = cs ++ one_by_one lists

-- by number from 0 on: rule 1 tests what is lent and not the packet, and there is no rule 0
abbrev pub rules_by_number : List ℕ → List (List Check)
rules_by_number p = [] ∷ [] ∷ rules_in_order p

-- the checks of the rule with a number, none where no rule has it
abbrev pub rule_checks : List ℕ → ℕ → List Check
rule_checks p r = get_or (rules_by_number p) r []

-- every test of the rule is kept
abbrev pub RuleKept : List ℕ → ℕ → Type 0
RuleKept p r = verdict (rule_checks p r) ≡ clear

-- this is the first of the rule's tests that is not
abbrev pub RuleBroken : List ℕ → ℕ → Rule → Type 0
RuleBroken p r rule = verdict (rule_checks p r) ≡ broken rule
