-- The two halves of the third demand, each by itself.
-- Assumes nothing.
use mathlib.Core.List.{List, [], ◌∷◌}
use mathlib.Core.Path.{◌≡◌, ◌∙◌, sym, refl, ap, ap₂, subst}
use Prim.Native.Nat.{ℕ}
use Rattle.basis.proofs.Verdicts.{refused_not_done}
use Rattle.basis.specs.Check.{Verdict, broken, clear, verdict}
use Rattle.read_packet.specs.Packet.{captions_length, packet_checks}
use Rattle.reader.specs.Shown.{shown_by}
use Rattle.reader.specs.Reader.{captions_of, cleared}
use Rattle.theorem_altered.proofs.OneHalf.{captions_altered, captions_stay, list_stays, services_altered}
use Rattle.theorem_altered.proofs.Sequences.{both_halves, cleared_with, given, reading_is}
use Rattle.theorem_altered.specs.Alteration.{Altered, OtherCaptions, OtherServices}
use Rattle.theorem_altered.specs.Calls.{Shown, call_shown, run_calls}
use Rattle.theorem_altered.specs.Twins.{
  Allowed,
  Excepted,
  Twin,
  Twins,
  after,
  altered,
  calls,
  excepted_after,
  first_of,
  flushes,
  nothing,
  same,
  save_both,
  save_captions,
  save_list,
  second_of,
  with_captions,
  with_list,
}
use Rattle.reader.specs.declared.parser.CDPParser.{CDPParser}

-- sequences with one kind of alteration are sequences with a wider one
module _ (Kind Wider : List ℕ → List ℕ → Type 0) (widens : (p q : List ℕ) → Kind p q → Wider p q) where
  allowed : (t : Twin) → Allowed Kind t → Allowed Wider t
  allowed flushes h = h
  allowed (same p lent lent') h = h
  allowed (altered p q lent lent') (room, h) = (room, widens p q h)

  twins : (ts : List Twin) → Twins Kind ts → Twins Wider ts
  twins [] h = h
  twins (t ∷ ts) (h, hs) = (allowed t h, twins ts hs)

-- with other captions alone, the list that is excepted is the one that is shown
abbrev Excused : Excepted → CDPParser → Type 0
Excused e s = with_list e s ≡ s

abbrev Unlisted : Twin → Excepted → Shown → Type 0
Unlisted t e c = Excused (excepted_after t c.answer e) c.parser

refused_excused :
    (v : Verdict) (length : ℕ) (shown s : CDPParser) (captions : List ℕ) (e : Excepted) (p lent lent' : List ℕ)
    → Excused e s
    → Unlisted (same p lent lent') e (given v length shown s captions)
refused_excused clear length shown s captions e p lent lent' h = refl
refused_excused (broken rule) length shown s captions e p lent lent' h =
    rw (refused_not_done rule.refusal) (sym (cleared_with e s) ∙ ap cleared h)

unlisted : (t : Twin) → Allowed OtherCaptions t → (e : Excepted) (s : CDPParser) → Excused e s
    → Unlisted t e (call_shown s (first_of t))
unfolding shown_by
unlisted flushes _ e s h = refl
unlisted (same p lent lent') room e s h =
    subst (Unlisted (same p lent lent') e) (sym (reading_is s p lent room.first))
    (refused_excused (verdict (packet_checks p)) (captions_length p) (shown_by p) s (captions_of p) e p lent lent' h)
unlisted (altered p q lent lent') (room, c) e s h =
    subst (Unlisted (altered p q lent lent') e) (sym (reading_is s p lent room.first))
    (rw (c.put.accepted, list_stays p q c))

captions_alone : (ts : List Twin) → Twins OtherCaptions ts → (e : Excepted) (s : CDPParser) → Excused e s
    → after save_both ts e (run_calls s (calls first_of ts)) ≡ after save_captions ts e (run_calls s (calls first_of ts))
captions_alone [] _ e s h = refl
captions_alone (t ∷ ts) (a, as') e s h =
    let first : Shown = call_shown s (first_of t) in
    let kept = unlisted t a e s h in
    ap₂ ◌∷◌
    (ap (λ (r : CDPParser). record {
      answer = first.answer;
      place = first.place;
      parser = r;
      captions = with_captions t first.captions;
    }) kept)
    (captions_alone ts as' (excepted_after t first.answer e) first.parser kept)

-- The first half: other caption bytes, equally many, in any of the accepted packets that end with their footer. All
-- answers and all that is shown are as before, but for the captions of those packets: there stand the new ones.
pub first_half : (s : CDPParser) (ts : List Twin) → Twins OtherCaptions ts
    → run_calls s (calls second_of ts) ≡ after save_captions ts nothing (run_calls s (calls first_of ts))
first_half s ts h =
    both_halves s ts (twins OtherCaptions Altered captions_altered ts h) ∙ captions_alone ts h nothing s refl

-- with other services alone, the captions are those that were there
abbrev Uncaptioned : Twin → Shown → Type 0
Uncaptioned t c = with_captions t c.captions ≡ c.captions

uncaptioned : (t : Twin) → Allowed OtherServices t → (s : CDPParser) → Uncaptioned t (call_shown s (first_of t))
uncaptioned flushes _ s = refl
uncaptioned (same p lent lent') room s = refl
uncaptioned (altered p q lent lent') (room, o) s =
    subst (Uncaptioned (altered p q lent lent')) (sym (reading_is s p lent room.first))
    (rw o.put.accepted (captions_stay p q o))

services_alone : (ts : List Twin) → Twins OtherServices ts → (e : Excepted) (s : CDPParser)
    → after save_both ts e (run_calls s (calls first_of ts)) ≡ after save_list ts e (run_calls s (calls first_of ts))
services_alone [] _ e s = refl
services_alone (t ∷ ts) (a, as') e s =
    let first : Shown = call_shown s (first_of t) in
    let next : Excepted = excepted_after t first.answer e in
    ap₂ ◌∷◌
    (ap (λ (c : List ℕ). record {
      answer = first.answer;
      place = first.place;
      parser = with_list next first.parser;
      captions = c;
    })
    (uncaptioned t a s))
    (services_alone ts as' next first.parser)

-- The second half: another well-formed service section with as many entries. Nothing but the list is
-- another, and that no longer than to the next acceptance or flush.
pub second_half : (s : CDPParser) (ts : List Twin) → Twins OtherServices ts
    → run_calls s (calls second_of ts) ≡ after save_list ts nothing (run_calls s (calls first_of ts))
second_half s ts h =
    both_halves s ts (twins OtherServices Altered services_altered ts h) ∙ services_alone ts h nothing s
