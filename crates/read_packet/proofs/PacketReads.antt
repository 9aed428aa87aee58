-- A packet, section by section: what the definition gives where a section is the first that is refused,
-- and where none is.
-- Assumes nothing.
use mathlib.Core.Bool.{Bool, true, false}
use mathlib.Core.List.{List, ◌++◌}
use mathlib.Core.Path.{◌≡◌, ◌∙◌, sym, ap}
use Prim.Native.Nat.{ℕ, ◌+◌, ◌≤◌}
use native.Mathlib.Omega.{arith}
use borrow.Author.Tests.{eqb-true}
use lib.ListN.{length}
use Rattle.std.specs.Prelude.{Result, Ok, Err}
use Rattle.basis.proofs.Readings.{given_clear, given_value, refused_first}
use Rattle.basis.proofs.Verdicts.{and_clear, and_first, and_second, and_then, kept_at_lem, verdict_append}
use Rattle.basis.specs.Bytes.{byte}
use Rattle.basis.specs.Check.{Check, Verdict, clear, read_as, size_when, verdict, when}
use Rattle.basis.specs.declared.refusal.Refused.{Refused}
use Rattle.values.specs.Layout.{header_size, time_code_size}
use Rattle.read_captions.specs.Captions.{captions_checks, captions_size}
use Rattle.read_captions.specs.Code.{captions_tested}
use Rattle.read_closing.specs.Closing.{closing_checks}
use Rattle.read_closing.specs.Code.{closing_read}
use Rattle.read_header.specs.Header.{flags_in, header_checks, sequence_in}
use Rattle.read_header.specs.Code.{header_of, header_read}
use Rattle.read_header.specs.declared.header.Header.{Header}
use Rattle.read_services.specs.Services.{services_checks, services_size}
use Rattle.read_services.specs.Code.{services_tested}
use Rattle.read_time_code.specs.TimeCode.{time_code_checks}
use Rattle.read_time_code.specs.Code.{section_of, time_code_read}
use Rattle.read_time_code.specs.declared.time_code.TimeCodeSection.{TimeCodeSection}
use Rattle.read_packet.specs.Packet.{captions_length, captions_at, closing_at, packet_checks, services_at, time_code_at}
use Rattle.read_packet.specs.Code.{checked_read, checked_shown}
use Rattle.read_packet.specs.declared.checked.Checked.{Checked}

-- five lists of checks, one after the other
five_parts : (a b c d e : List Check)
    → verdict (a ++ (b ++ (c ++ (d ++ e))))
    ≡ and_then (verdict a) (and_then (verdict b) (and_then (verdict c) (and_then (verdict d) (verdict e))))
five_parts a b c d e =
    verdict_append a (b ++ (c ++ (d ++ e)))
    ∙ ap (and_then (verdict a))
    (verdict_append b (c ++ (d ++ e))
    ∙ ap (and_then (verdict b)) (verdict_append c (d ++ e) ∙ ap (and_then (verdict c)) (verdict_append d e)))

abbrev pub services_moved : List ℕ → ℕ
services_moved p = size_when (flags_in p).svc_info (services_size p (services_at p))

-- how far i moves on over a section: at most the section's largest size
size_when_most : (present : Bool) (size most : ℕ) → size ≤ most → size_when present size ≤ most
size_when_most true size most h = h
size_when_most false size most h = omega arith

module _ (p : List ℕ) where
  -- the verdicts of the five parts
  abbrev header : Verdict
  header = verdict (header_checks p)

  abbrev time_code : Verdict
  time_code = verdict (when (flags_in p).time_code (time_code_checks p time_code_at))

  abbrev captions : Verdict
  captions = verdict (when (flags_in p).cc_data (captions_checks p (captions_at p)))

  abbrev services : Verdict
  services = verdict (when (flags_in p).svc_info (services_checks p (flags_in p) (services_at p)))

  abbrev closing : Verdict
  closing = verdict (closing_checks p (sequence_in p) (closing_at p))

  -- the packet's verdict is theirs, in order
  pub in_order : verdict (packet_checks p) ≡ and_then header (and_then time_code (and_then captions (and_then services closing)))
  unfolding packet_checks
  in_order =
      five_parts (header_checks p)
      (when (flags_in p).time_code (time_code_checks p time_code_at))
      (when (flags_in p).cc_data (captions_checks p (captions_at p)))
      (when (flags_in p).svc_info (services_checks p (flags_in p) (services_at p)))
      (closing_checks p (sequence_in p) (closing_at p))

  -- the places fit a byte
  pub captions_near : captions_at p ≤ 12
  captions_near = omega (arith, size_when_most (flags_in p).time_code time_code_size time_code_size (omega arith))

  pub services_near : services_at p ≤ 107
  services_near =
      omega (arith, captions_near, size_when_most (flags_in p).cc_data (captions_size p (captions_at p)) 95 (omega arith))

  pub closing_near : closing_at p ≤ 214
  closing_near =
      omega (
        arith,
        services_near,
        size_when_most (flags_in p).svc_info (services_size p (services_at p)) 107 (omega arith),
      )

  -- a part that is refused, where what is left of the packet's verdict begins with it
  stops : {A : Type 0} (v w : Verdict) (value : A) (r : Refused) → verdict (packet_checks p) ≡ and_then v w
      → read_as v value ≡ Err r → Err r ≡ checked_read p
  unfolding checked_read
  stops v w value r e h =
      refused_first _ v w value (checked_shown p) r h ∙ ap (λ (u : Verdict). read_as u (checked_shown p)) (sym e)

  -- what is left of it behind a part that is accepted
  behind : (v w : Verdict) → verdict (packet_checks p) ≡ and_then v w → v ≡ clear → verdict (packet_checks p) ≡ w
  behind v w e h = e ∙ ap (λ (u : Verdict). and_then u w) h

  pub header_refused : (r : Refused) → header_read p ≡ Err r → Err r ≡ checked_read p
  unfolding header_read
  header_refused r h = stops header _ (header_of p) r in_order h

  module _ {headed : Header} (header_so : header_read p ≡ Ok headed) where
    header_clear : header ≡ clear
    unfolding header_read
    header_clear = given_clear _ header (header_of p) headed header_so

    header_is : headed ≡ header_of p
    unfolding header_read
    header_is = given_value _ header (header_of p) headed header_so

    behind_header : verdict (packet_checks p) ≡ and_then time_code (and_then captions (and_then services closing))
    behind_header = behind header _ in_order header_clear

    -- each part is asked by what the parts in front of it gave, and that is where and what the packet says
    time_code_at_so : time_code_read p headed.flags.time_code header_size ≡ time_code_read p (flags_in p).time_code time_code_at
    time_code_at_so = rw header_is

    pub time_code_refused : (r : Refused) → time_code_read p headed.flags.time_code header_size ≡ Err r → Err r ≡ checked_read p
    unfolding time_code_read
    time_code_refused r h =
        stops time_code _ (section_of p (flags_in p).time_code time_code_at) r behind_header (sym time_code_at_so ∙ h)

    module _ {timed : TimeCodeSection} (timed_so : time_code_read p headed.flags.time_code header_size ≡ Ok timed) where
      timed_asked : time_code_read p (flags_in p).time_code time_code_at ≡ Ok timed
      timed_asked = sym time_code_at_so ∙ timed_so

      time_code_clear : time_code ≡ clear
      unfolding time_code_read
      time_code_clear = given_clear _ time_code (section_of p (flags_in p).time_code time_code_at) timed timed_asked

      timed_is : timed ≡ section_of p (flags_in p).time_code time_code_at
      unfolding time_code_read
      timed_is = given_value _ time_code (section_of p (flags_in p).time_code time_code_at) timed timed_asked

      timed_size : timed.size ≡ size_when (flags_in p).time_code time_code_size
      timed_size = ap (λ (r : TimeCodeSection). r.size) timed_is

      behind_time_code : verdict (packet_checks p) ≡ and_then captions (and_then services closing)
      behind_time_code = behind time_code _ behind_header time_code_clear

      captions_at_so : captions_tested p headed.flags.cc_data (header_size + timed.size)
          ≡ captions_tested p (flags_in p).cc_data (captions_at p)
      captions_at_so = rw (header_is, timed_is)

      pub captions_refused : (r : Refused) → captions_tested p headed.flags.cc_data (header_size + timed.size) ≡ Err r
          → Err r ≡ checked_read p
      unfolding captions_tested
      captions_refused r h = stops captions _ (captions_length p) r behind_time_code (sym captions_at_so ∙ h)

      module _ {run : ℕ} (captions_so : captions_tested p headed.flags.cc_data (header_size + timed.size) ≡ Ok run) where
        captions_asked : captions_tested p (flags_in p).cc_data (captions_at p) ≡ Ok run
        captions_asked = sym captions_at_so ∙ captions_so

        captions_clear : captions ≡ clear
        unfolding captions_tested
        captions_clear = given_clear _ captions (captions_length p) run captions_asked

        run_is : run ≡ captions_length p
        unfolding captions_tested
        run_is = given_value _ captions (captions_length p) run captions_asked

        behind_captions : verdict (packet_checks p) ≡ and_then services closing
        behind_captions = behind captions _ behind_time_code captions_clear

        services_at_so : services_tested p headed.flags (header_size + timed.size + run)
            ≡ services_tested p (flags_in p) (services_at p)
        services_at_so = rw (header_is, timed_is, run_is)

        pub services_refused : (r : Refused) → services_tested p headed.flags (header_size + timed.size + run) ≡ Err r
            → Err r ≡ checked_read p
        unfolding services_tested
        services_refused r h = stops services _ (services_moved p) r behind_captions (sym services_at_so ∙ h)

        module _ {listed : ℕ} (services_so : services_tested p headed.flags (header_size + timed.size + run) ≡ Ok listed) where
          services_asked : services_tested p (flags_in p) (services_at p) ≡ Ok listed
          services_asked = sym services_at_so ∙ services_so

          services_clear : services ≡ clear
          unfolding services_tested
          services_clear = given_clear _ services (services_moved p) listed services_asked

          listed_is : listed ≡ services_moved p
          unfolding services_tested
          listed_is = given_value _ services (services_moved p) listed services_asked

          behind_services : verdict (packet_checks p) ≡ closing
          behind_services = behind services _ behind_captions services_clear

          closing_at_so : closing_read p headed.sequence (header_size + timed.size + run + listed)
              ≡ closing_read p (sequence_in p) (closing_at p)
          closing_at_so = rw (header_is, timed_is, run_is, listed_is)

          pub closing_refused : (r : Refused)
              → closing_read p headed.sequence (header_size + timed.size + run + listed) ≡ Err r → Err r ≡ checked_read p
          unfolding closing_read
          closing_refused r h =
              stops closing clear tt r (behind_services ∙ sym (and_clear closing)) (sym closing_at_so ∙ h)

          pub packet_whole : {u : Unit} → closing_read p headed.sequence (header_size + timed.size + run + listed) ≡ Ok u
              → Ok (checked_shown p) ≡ checked_read p
          unfolding closing_read checked_read
          packet_whole h =
              ap (λ (v : Verdict). read_as v (checked_shown p))
              (sym (behind_services ∙ given_clear _ closing tt _ (sym closing_at_so ∙ h)))

          -- the same of what was read of each part
          pub packet_accepted : {u : Unit} → closing_read p headed.sequence (header_size + timed.size + run + listed) ≡ Ok u
              → ◌≡◌ {A = Result Checked Refused}
              (Ok (record {
                framerate = headed.framerate;
                time_code = timed.time_code;
                sequence = headed.sequence;
                flags = headed.flags;
                captions = run;
                captions_at = header_size + timed.size;
                services_at = header_size + timed.size + run;
              }))
              (checked_read p)
          packet_accepted h = rw (header_is, timed_is, run_is) (packet_whole h)

          pub closing_fits : header_size + timed.size + run + listed ≤ 214
          closing_fits = omega (arith, closing_near, timed_size, run_is, listed_is)

        pub services_fit : header_size + timed.size + run ≤ 107
        services_fit = omega (arith, services_near, timed_size, run_is)

      pub captions_fit : header_size + timed.size ≤ 12
      captions_fit = omega (arith, captions_near, timed_size)

  -- the parts of an accepted packet: its size is the one that it says, and captions, services and footer are clear
  pub header_of_packet : verdict (packet_checks p) ≡ clear → header ≡ clear
  header_of_packet h = and_first header _ (sym in_order ∙ h)

  pub size_of_packet : verdict (packet_checks p) ≡ clear → byte p 2 ≡ length p
  size_of_packet h = eqb-true _ _ (kept_at_lem 2 (header_checks p) (header_of_packet h))

  pub captions_of_packet : verdict (packet_checks p) ≡ clear → captions ≡ clear
  captions_of_packet h = and_first _ _ (and_second time_code _ (and_second header _ (sym in_order ∙ h)))

  pub services_of_packet : verdict (packet_checks p) ≡ clear → services ≡ clear
  services_of_packet h =
      and_first _ _ (and_second captions _ (and_second time_code _ (and_second header _ (sym in_order ∙ h))))

  pub closing_of_packet : verdict (packet_checks p) ≡ clear → closing ≡ clear
  closing_of_packet h =
      and_second services _ (and_second captions _ (and_second time_code _ (and_second header _ (sym in_order ∙ h))))
