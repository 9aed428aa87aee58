-- What a refusal's two values are: of every list of checks, that the first broken one is refused as the table has it.
-- Assumes nothing.
use mathlib.Core.Bool.{Bool, true, false, cond, not}
use mathlib.Core.List.{List, [], ◌∷◌, ◌++◌}
use mathlib.Core.Path.{◌≡◌, refl, sym, ap}
use Prim.Native.Nat.{ℕ, zero, suc, ◌+◌, ◌≤◌, ◌<◌}
use native.Mathlib.Omega.{arith}
use borrow.Author.Tests.{eqb-false, leb-false, leb-true, lt-ltb, ne_eqb}
use lib.Dec.{eqb, leb}
use lib.ListN.{length}
use Rattle.basis.proofs.Holds.{Holds, So, also, both, fixed, none, unless_found, where_moved, where_there}
use Rattle.basis.specs.Answer.{refused}
use Rattle.basis.specs.declared.refusal.Refusal.TheVariants.{InvalidFixedBits, InvalidServiceNumber, LengthMismatch, WouldOverflow}
use Rattle.basis.specs.Bytes.{byte}
use Rattle.basis.specs.Check.{Check, CheckOf, RuleAt, WriteCheck, check, check_at, moved, room_check, size_check, when}
use Rattle.basis.specs.declared.test.SizeTest.{SizeTest}
use Rattle.basis.specs.declared.test.ByteTest.TheVariants.{KindField, KindNumber}
use Rattle.basis.specs.declared.test.SizeTest.TheVariants.{PacketSize}
use Rattle.basis.specs.declared.test.Test.TheVariants.{Byte, Size}
use Rattle.basis.specs.Mask.{all_clear, all_set, x3e, x3f, x80}
use Rattle.values.specs.Layout.{footer_id, section_length, caption_room, footer_size, section_entry_size, time_code_size}
use Rattle.values_time.specs.Time.{time_checks, time_write_checks}
use Rattle.service_entry.specs.Entry.{entry_checks}
use Rattle.service_entry.specs.EntryWriting.{entry_check}
use Rattle.service_entries.specs.Entries.{checks_at, count_of, entry_list_checks, section_checks, six_behind}
use Rattle.service_entry.specs.EntriesWriting.{entry_write_checks}
use Rattle.service_list.specs.SectionWriting.{counted, value_checks}
use Rattle.read_header.specs.Header.{flags_in, header_checks, sequence_in}
use Rattle.read_time_code.specs.TimeCode.{of_four, time_code_checks}
use Rattle.read_captions.specs.Captions.{captions_checks, captions_size}
use Rattle.read_services.proofs.ServicesReads.{as_long}
use Rattle.read_services.specs.Services.{services_part, services_checks, services_size}
use Rattle.read_closing.specs.Closing.{closing_checks, footer_checks, footer_from, future_checks, future_length}
use Rattle.read_packet.specs.Packet.{time_code_at, captions_at, closing_at, packet_checks, services_at}
use Rattle.reader.specs.Reader.{caption_room_check, read_checks}
use Rattle.write_checks.specs.Checks as Checks
use Rattle.writer.specs.Writer.{set_checks}
use Rattle.theorem_packet.specs.FirstDemand.{differ, refusal_in_table, smaller}
use Rattle.service_entry.specs.declared.entry.ServiceEntry.{ServiceEntry}
use Rattle.service_list.specs.declared.list.MaybeServiceInfo.{MaybeServiceInfo}
use Rattle.service_list.specs.declared.list.ServiceInfo.{ServiceInfo}
use Rattle.values_time.specs.declared.time.MaybeTimeCode.{MaybeTimeCode}
use Rattle.values_time.specs.declared.time.TimeCode.{TimeCode}
use Rattle.values.specs.declared.flags.Flags.{Flags}
use Rattle.values.specs.declared.framerate.Framerate.{Framerate}

-- a rule that refuses as the table has it, with these two values beside 1
abbrev pub proper : {P : Type 0} → (ℕ → ℕ → Bool) → RuleAt P → Bool
proper beside rule = refusal_in_table beside (refused rule.refusal)

-- so does the first of these checks that is broken
abbrev pub Proper : {P : Type 0} → (ℕ → ℕ → Bool) → List (CheckOf P) → Type 0
Proper beside cs = Holds (So (proper beside)) cs

-- a lent buffer is too short with less than is needed
short : (needed lent : ℕ) → leb needed lent ≡ false → smaller needed lent ≡ true
short needed lent k = lt-ltb lent needed (leb-false needed lent k)

pub room : (beside : ℕ → ℕ → Bool) (needed lent : ℕ) {cs : List WriteCheck} → Proper beside cs
    → Proper beside (room_check needed lent ∷ cs)
room beside needed lent later = also (short needed lent) (λ _. later)

-- the same behind all that a writer tests
pub with_room : (beside : ℕ → ℕ → Bool) (cs : List WriteCheck) → Proper beside cs → (needed : ℕ) (buffer : List ℕ)
    → Proper beside (cs ++ room_check needed (length buffer) ∷ [])
with_room beside cs a needed buffer = both cs _ a (room beside needed (length buffer) none)

-- what stands beside 1 where less is met than at least so many bytes
abbrev pub Shorter : (ℕ → ℕ → Bool) → Type 0
Shorter beside = (expected met : ℕ) → met < expected → beside expected met ≡ true

differs : (expected met : ℕ) → (expected ≡ met → ⊥) → differ expected met ≡ true
differs expected met h = ap not (ne_eqb expected met h)

shorter_differs : Shorter differ
shorter_differs expected met h = differs expected met (λ e. omega arith)

pub shorter_smaller : Shorter smaller
shorter_smaller expected met h = lt-ltb met expected h

-- rules that answer no 1: a time code's four bytes, an entry; and all that a writer tests
module _ (beside : ℕ → ℕ → Bool) where
  pub time_proper : (hours minutes seconds frames : ℕ) → Proper beside (time_checks hours minutes seconds frames)
  time_proper hours minutes seconds frames = fixed refl (fixed refl (fixed refl none))

  -- E2: both refusals of the kind byte are fixed ones
  kind : (digital kept kept' : Bool) {cs : List Check} → Proper beside cs
      → Proper beside (cond digital (check_at 3 (Byte KindNumber) kept InvalidServiceNumber)
      (check_at 3 (Byte KindField) kept' InvalidFixedBits) ∷ cs)
  kind true kept kept' later = fixed refl later
  kind false kept kept' later = fixed refl later

  -- a part's checks are the same wherever it stands
  part : (from : ℕ) (cs : List Check) → Proper beside cs → Proper beside (moved from cs)
  part from cs a = where_moved from cs (λ rule h. h) a

  pub entry_proper : (e : List ℕ) → Proper beside (entry_checks e)
  entry_proper e =
      fixed refl
      (kind (all_set x80 (byte e 3)) (not (all_clear x3f (byte e 3))) (all_set x3e (byte e 3))
      (fixed refl (fixed refl none)))

  at_proper : (d : List ℕ) (at : ℕ) → Proper beside (checks_at d at)
  at_proper d at =
      fixed refl
      (fixed refl
      (both (moved 1 (entry_checks (six_behind d at))) _ (part 1 (entry_checks (six_behind d at)) (entry_proper (six_behind d at)))
      (fixed refl none)))

  entries_proper : (d : List ℕ) (at n : ℕ) → Proper beside (entry_list_checks d at n)
  entries_proper d at zero = none
  entries_proper d at (suc n) =
      both (moved at (checks_at d at)) (entry_list_checks d (at + section_entry_size) n) (part at (checks_at d at) (at_proper d at))
      (entries_proper d (at + section_entry_size) n)

  pub time_write_proper : (t : TimeCode) → Proper beside (time_write_checks t)
  time_write_proper t = fixed refl (fixed refl (fixed refl (fixed refl none)))

  pub entry_write_proper : (e : ServiceEntry) → Proper beside (entry_check e ∷ [])
  entry_write_proper e = fixed refl none

  entry_writes_proper : (es : List ServiceEntry) → Proper beside (entry_write_checks es)
  entry_writes_proper [] = none
  entry_writes_proper (e ∷ es) = fixed refl (entry_writes_proper es)

  pub value_proper : (l : ServiceInfo) → Proper beside (value_checks l)
  value_proper l = fixed refl (entry_writes_proper (counted l))

  pub overflow_proper : (kept : Bool) → Proper beside (check kept WouldOverflow ∷ [])
  overflow_proper kept = fixed refl none

  pub set_proper : (services : MaybeServiceInfo) → Proper beside (set_checks services)
  set_proper services = where_there services.present (fixed refl none)

  pub packet_write_proper : (rate : Framerate) (time : MaybeTimeCode) (services : MaybeServiceInfo) (run : ℕ)
      → Proper beside (Checks.packet_write_checks rate time services run)
  packet_write_proper rate time services run =
      fixed refl
      (fixed refl
      (both (Checks.time_code_write_checks time) (Checks.services_write_checks services)
      (where_there time.present (time_write_proper time.time_code))
      (where_there services.present (value_proper services.service_info))))

-- rules that answer 1 where bytes are missing: the parts of a packet behind its header
module _ (beside : ℕ → ℕ → Bool) (shorter : Shorter beside) where
  size : {test : SizeTest} (p : List ℕ) (least : ℕ) {cs : List Check} → (least ≤ length p → Proper beside cs)
      → Proper beside (size_check test p least ∷ cs)
  size {test} p least later =
      also {good = So (proper beside)} {c = size_check test p least}
      (λ k. shorter least (length p) (leb-false least (length p) k)) (λ k. later (leb-true least (length p) k))

  pub time_code_proper : (p : List ℕ) (i : ℕ) → Proper beside (time_code_checks p i)
  time_code_proper p i =
      let four : List Check = of_four time_checks p i in
      size p (i + time_code_size)
      (λ _. fixed refl
      (part beside (i + 1) four (time_proper beside (byte p (i + 1)) (byte p (i + 2)) (byte p (i + 3)) (byte p (i + 4)))))

  pub captions_proper : (p : List ℕ) (i : ℕ) → Proper beside (captions_checks p i)
  captions_proper p i = size p (i + 2) (λ _. fixed refl (fixed refl (size p (i + captions_size p i) (λ _. none))))

  -- a section, if its size is refused as the table has it
  section : (d : List ℕ)
      → ((section_length (count_of d) ≡ length d → ⊥) → beside (section_length (count_of d)) (length d) ≡ true)
      → Proper beside (section_checks d)
  unfolding section_checks
  section d other =
      size d 2
      (λ _. fixed refl
      (fixed refl
      (also (λ k. other (λ e. eqb-false _ _ k (sym e))) (λ _. entries_proper beside d 2 (count_of d)))))

  pub services_proper : (p : List ℕ) (f : Flags) (i : ℕ) → Proper beside (services_checks p f i)
  services_proper p f i =
      size p (i + 2)
      (λ _. fixed refl
      (size p (i + services_size p i)
      (λ fits. both (moved i (section_checks (services_part p i))) _
      (part beside i (section_checks (services_part p i))
      (section (services_part p i) (λ other. absurd (other (sym (as_long p i fits))))))
      (fixed refl none))))

  future_proper : (turns : ℕ) (p : List ℕ) (i : ℕ) → Proper beside (future_checks turns p i)
  future_proper zero p i = none
  future_proper (suc turns) p i =
      unless_found (eqb (byte p i) footer_id)
      (fixed refl
      (size p (i + 1 + future_length p i)
      (λ _. size p (i + 2 + future_length p i + 2) (λ _. future_proper turns p (i + 2 + future_length p i)))))

  pub closing_proper : (p : List ℕ) (sequence i : ℕ) → Proper beside (closing_checks p sequence i)
  unfolding closing_checks
  closing_proper p sequence i =
      let at : ℕ = footer_from (length p) p i in
      size p (i + 2)
      (λ _. both (future_checks (length p) p i) (footer_checks p sequence at) (future_proper (length p) p i)
      (size p (at + footer_size) (λ _. fixed refl (fixed refl none))))

-- rules that answer 1 where a size is another than what is said: a section alone, the header, and so a packet
pub section_proper : (d : List ℕ) → Proper differ (section_checks d)
section_proper d = section differ shorter_differs d (differs (section_length (count_of d)) (length d))

pub header_proper : (p : List ℕ) → Proper differ (header_checks p)
header_proper p =
    let said : Check =
    check_at (length p) (Size PacketSize) (eqb (byte p 2) (length p)) (LengthMismatch (byte p 2) (length p)) in
    size differ shorter_differs p 11
    (λ _. fixed refl
    (also {good = So (proper differ)} {c = said} (λ k. differs (byte p 2) (length p) (eqb-false (byte p 2) (length p) k))
    (λ _. fixed refl none)))

pub packet_proper : (p : List ℕ) → Proper differ (packet_checks p)
unfolding packet_checks
packet_proper p =
    let f : Flags = flags_in p in
    let time : List Check = when f.time_code (time_code_checks p time_code_at) in
    let captions : List Check = when f.cc_data (captions_checks p (captions_at p)) in
    let services : List Check = when f.svc_info (services_checks p f (services_at p)) in
    let closing : List Check = closing_checks p (sequence_in p) (closing_at p) in
    both (header_checks p) (time ++ (captions ++ (services ++ closing))) (header_proper p)
    (both time (captions ++ (services ++ closing))
    (where_there f.time_code (time_code_proper differ shorter_differs p time_code_at))
    (both captions (services ++ closing) (where_there f.cc_data (captions_proper differ shorter_differs p (captions_at p)))
    (both services closing (where_there f.svc_info (services_proper differ shorter_differs p f (services_at p)))
    (closing_proper differ shorter_differs p (sequence_in p) (closing_at p)))))

pub read_proper : (p : List ℕ) (lent : ℕ) → Proper differ (read_checks p lent)
read_proper p lent =
    also {good = So (proper differ)} {c = caption_room_check lent} {cs = packet_checks p} (short caption_room lent)
    (λ _. packet_proper p)
