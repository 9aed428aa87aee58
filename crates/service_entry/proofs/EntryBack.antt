-- Reading an entry takes back what writing made of it.
-- Assumes nothing.
use mathlib.Core.Path.{◌≡◌, ◌∙◌, refl, ap}
use mathlib.Core.Bool.{Bool, true, false}
use mathlib.Core.List.{List, [], ◌∷◌}
use Prim.Native.Nat.{ℕ, ◌+◌, ◌-◌, ◌^◌, ◌≤◌}
use native.Mathlib.Omega.{arith}
use lib.Dec.{eqb, leb}
use lib.ListN.{length, take}
use borrow.Author.Tests.{eq-eqb, ne_eqb, leb-true}
use Rattle.std.specs.Prelude.{Ok}
use Rattle.basis.proofs.Bools.{and_left, and_right}
use Rattle.basis.proofs.Verdicts.{kept_at_lem}
use Rattle.basis.specs.Bytes.{byte}
use Rattle.basis.specs.Check.{verdict, clear}
use Rattle.basis.specs.Mask.{Mask, flag, under, all_set, x80, x40, x3f}
use Rattle.service_entry.specs.Entry.{entry_checks, entry_of, entry_read, service_of}
use Rattle.service_entry.specs.Service.{entry}
use Rattle.basis.specs.Writing.{Written}
use Rattle.service_entry.specs.EntryWriting.{writable, kind_byte, flags_byte, entry_bytes, entry_check, entry_written}
use Rattle.basis.proofs.Writes.{first_bytes, room_done}
use Rattle.service_entry.specs.declared.entry.ServiceEntry.{ServiceEntry}
use Rattle.service_entry.specs.declared.service.DigitalServiceEntry.{DigitalServiceEntry}
use Rattle.service_entry.specs.declared.service.FieldOrService.{FieldOrService}
use Rattle.service_entry.specs.declared.service.FieldOrService.TheVariants.{Field, Service}

-- a digital service that can be written has a number from 1 to 63
pub number_low : (d : DigitalServiceEntry) → writable (Service d) ≡ true → 1 ≤ d.service
number_low d h = leb-true 1 d.service (and_left _ _ h)

pub number_high : (d : DigitalServiceEntry) → writable (Service d) ≡ true → d.service ≤ 63
number_high d h = leb-true d.service 63 (and_right (leb 1 d.service) _ h)

-- a test of a mask, from the number under it
pub all_set_lem : (m : Mask) (b : ℕ) → under m b ≡ 2 ^ m.ones - 1 → all_set m b ≡ true
all_set_lem m b h = eq-eqb _ _ h

-- byte 3 of a digital service: bits 80 and 40 are set, the low six are the number
module _ (n : ℕ) (h : n ≤ 63) where
  digital_80 : all_set x80 (0xC0 + n) ≡ true
  digital_80 = all_set_lem x80 (0xC0 + n) (omega arith)

  digital_40 : all_set x40 (0xC0 + n) ≡ true
  digital_40 = all_set_lem x40 (0xC0 + n) (omega arith)

  digital_number : under x3f (0xC0 + n) ≡ n
  digital_number = omega arith

-- byte 4 has all of 3F, and each flag in its bit
flags_3_f : (easy wide : Bool) → all_set x3f (flag easy 0x80 + flag wide 0x40 + 0x3F) ≡ true
flags_3_f true true = refl
flags_3_f true false = refl
flags_3_f false true = refl
flags_3_f false false = refl

flags_80 : (easy wide : Bool) → all_set x80 (flag easy 0x80 + flag wide 0x40 + 0x3F) ≡ easy
flags_80 true true = refl
flags_80 true false = refl
flags_80 false true = refl
flags_80 false false = refl

flags_40 : (easy wide : Bool) → all_set x40 (flag easy 0x80 + flag wide 0x40 + 0x3F) ≡ wide
flags_40 true true = refl
flags_40 true false = refl
flags_40 false true = refl
flags_40 false false = refl

-- bytes 3 and 4 name the service again
pub service_back : (s : FieldOrService) → writable s ≡ true → service_of (kind_byte s) (flags_byte s) ≡ s
service_back (Field true) h = refl
service_back (Field false) h = refl
service_back (Service d) h =
    let high : d.service ≤ 63 = number_high d h in
    simp (
      digital_80 d.service high,
      digital_number d.service high,
      flags_80 d.easy_reader d.wide_aspect_ratio,
      flags_40 d.easy_reader d.wide_aspect_ratio,
    )

-- E1 to E4 are kept by the bytes of an entry that can be written
pub entry_clear : (language : List ℕ) (s : FieldOrService) → writable s ≡ true
    → verdict (entry_checks (entry_bytes (entry language s))) ≡ clear
entry_clear language (Field true) h = refl
entry_clear language (Field false) h = refl
entry_clear language (Service d) h =
    let low : 1 ≤ d.service = number_low d h in
    let high : d.service ≤ 63 = number_high d h in
    simp (
      digital_80 d.service high,
      digital_40 d.service high,
      digital_number d.service high,
      ne_eqb d.service 0 (λ z. omega arith),
      flags_3_f d.easy_reader d.wide_aspect_ratio,
    )

-- the first three bytes are the language again
language_back : (l : List ℕ) → length l ≡ 3 → byte l 0 ∷ byte l 1 ∷ byte l 2 ∷ [] ≡ l
language_back (a ∷ b ∷ c ∷ []) h = refl
language_back [] h = absurd (omega arith)
language_back (a ∷ []) h = absurd (omega arith)
language_back (a ∷ b ∷ []) h = absurd (omega arith)
language_back (a ∷ b ∷ c ∷ d ∷ l) h = absurd (omega arith)

pub entry_of_back : (e : ServiceEntry) → length e.language ≡ 3 → writable e.service ≡ true
    → entry_of (entry_bytes e) ≡ e
entry_of_back e three h = rw (language_back e.language three, service_back e.service h)

-- An entry with a language of three bytes that can be written, a field or a digital number of 1 to 63: reading the six bytes
-- that writing makes of it is done, and gives the same entry. Both fields are read back as they were.
pub entry_back : (e : ServiceEntry) → length e.language ≡ 3 → writable e.service ≡ true
    → entry_read (entry_bytes e) ≡ Ok e
unfolding entry_read
entry_back e three h = rw (entry_clear e.language e.service h, entry_of_back e three h)

-- The same of what the writer leaves in a buffer, where it answers 0: reading as many first bytes as it answers gives the entry.
pub entry_written_back : (e : ServiceEntry) (buffer : List ℕ) → length e.language ≡ 3
    → eqb (entry_written e buffer).answer.number 0 ≡ true
    → entry_read (take (entry_written e buffer).answer.first (entry_written e buffer).buffer)
    ≡ Ok e
unfolding entry_written
entry_written_back e buffer three h =
    let both = room_done (entry_check e ∷ []) 6 (entry_bytes e) buffer h in
    ap (λ (w : Written). entry_read (take w.answer.first w.buffer)) both.1
    ∙ ap entry_read (first_bytes (entry_bytes e) buffer)
    ∙ entry_back e three (kept_at_lem 0 (entry_check e ∷ []) both.0)
