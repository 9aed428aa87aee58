-- The places: each rule's is inside its input, and a part's checks are moved to where the part stands.
-- Assumes nothing.
use mathlib.Core.Bool.{Bool, true, false, cond, ◌&&◌, false≢true, true≢false}
use mathlib.Core.List.{List, [], ◌∷◌, ◌++◌}
use mathlib.Core.Path.{◌∙◌, ◌≡◌, ap, ap₂, refl}
use Prim.Native.Nat.{ℕ, zero, suc, ◌+◌, ◌-◌, ◌*◌, ◌≤◌, ◌<◌}
use native.Mathlib.Omega.{arith}
use borrow.Author.Tests.{le-leb}
use lib.Dec.{eqb, leb, ltb}
use lib.ListN.{length, take}
use Rattle.basis.proofs.Readings.{answer_read, place_read}
use Rattle.basis.proofs.Holds.{Inside, So, held, not_eleven, placed_in, where_there}
use Rattle.basis.proofs.Verdicts.{
  and_then,
  append_first,
  append_second,
  moved_kept,
  moved_refused,
  moved_verdict,
  refused_behind,
  refused_not_done,
  refused_stays,
  verdict_append,
  verdict_moved,
}
use Rattle.basis.specs.Answer.{refused}
use Rattle.basis.specs.Check.{
  Check,
  Rule,
  Verdict,
  WriteCheck,
  WriteVerdict,
  answer,
  broken,
  check,
  clear,
  moved,
  place_of,
  read_answer,
  read_as,
  read_place,
  unplaced,
  verdict,
  when,
}
use Rattle.values.specs.Layout.{caption_room, section_entry_size, section_head_size, section_length}
use Rattle.values_time.proofs.TimeReads.{time_within}
use Rattle.values_time.specs.Time.{time_checks, time_read}
use Rattle.service_entry.proofs.EntryReads.{entry_within}
use Rattle.service_entry.specs.EntryWriting.{entry_length}
use Rattle.service_entries.specs.Code.{entries_read, section_outcome}
use Rattle.read_captions.proofs.CaptionsReads.{captions_inside}
use Rattle.read_captions.specs.Code.{captions_tested}
use Rattle.read_closing.proofs.ClosingPlaces.{closing_inside}
use Rattle.read_closing.specs.Code.{closing_read}
use Rattle.read_header.proofs.HeaderReads.{header_inside}
use Rattle.read_header.specs.Code.{header_read}
use Rattle.read_services.proofs.ServicesReads.{services_inside}
use Rattle.read_services.specs.Code.{services_tested}
use Rattle.read_time_code.proofs.TimeCodeReads.{time_code_inside}
use Rattle.read_time_code.specs.Code.{time_code_read}
use Rattle.service_entry.specs.Entry.{entry_checks, entry_read}
use Rattle.service_entries.proofs.SectionPlaces.{section_inside}
use Rattle.service_entries.specs.Entries.{checks_at, count_of, entry_list_checks, frame_checks, number_check, section_checks}
use Rattle.service_list.specs.Section.{section_read}
use Rattle.read_captions.specs.Captions.{captions_checks}
use Rattle.read_header.specs.Header.{flags_in, header_checks}
use Rattle.read_packet.proofs.Answers.{packet_inside}
use Rattle.read_packet.proofs.PacketReads.{in_order}
use Rattle.read_packet.specs.Packet.{captions_at, captions_length, packet_checks, services_at, time_code_at}
use Rattle.read_services.specs.Services.{flags_check, services_checks}
use Rattle.read_time_code.specs.TimeCode.{time_code_checks}
use Rattle.read_packet.specs.Code.{checked_read}
use Rattle.reader.specs.Code.{packet_read}
use Rattle.reader.specs.Reader.{caption_room_check, read, read_checks}
use Rattle.theorem_packet.specs.FirstDemand.{refuses}
use Rattle.theorem_packet.specs.Places.{
  Places,
  before_entry,
  before_section,
  own_entry,
  own_section,
  read_stands,
  stands_in,
  without_places,
}
use Rattle.reader.specs.declared.parser.CDPParser.{CDPParser}

-- no answer hangs on a place
answers_stay : (cs : List Check) (count : ℕ) → answer (verdict cs) count ≡ answer (verdict (without_places cs)) count
answers_stay [] count = refl
answers_stay (c ∷ cs) count =
    step c.kept c.rule (verdict cs) (verdict (without_places cs)) (answers_stay cs count)
  where
    step : (kept : Bool) (rule : Rule) (v : Verdict) (w : WriteVerdict) → answer v count ≡ answer w count
        → answer (cond kept v (broken rule)) count ≡ answer (cond kept w (broken (unplaced rule.refusal))) count
    step true rule v w e = e
    step false rule v w e = refl

parts_stay : (from : ℕ) (cs : List Check) → without_places (moved from cs) ≡ without_places cs
parts_stay from [] = refl
parts_stay from (c ∷ cs) =
    ap (λ (rest : List WriteCheck). check c.kept c.rule.refusal ∷ rest) (parts_stay from cs)

-- an answer of reading stands where its rule does
stands_so : (sizes one ends inside : Bool) → cond one (sizes && ends) inside ≡ true → cond one ends inside ≡ true
stands_so true one ends inside h = h
stands_so false true ends inside h = absurd (false≢true h)
stands_so false false ends inside h = h

stands : (sizes : Bool) (size : ℕ) (v : Verdict) (count : ℕ) → held (So (placed_in sizes size)) v
    → stands_in size (answer v count) (place_of v) ≡ true
stands sizes size clear count h = refl
stands sizes size (broken rule) count h =
    let number : ℕ = (refused rule.refusal).number in
    rw (refused_not_done rule.refusal, not_eleven sizes size (broken rule) count h)
    (stands_so sizes (eqb number 1) (eqb rule.at.place size) (leb number 9 && ltb rule.at.place size) h)

-- so what reading gives
gives : (sizes : Bool) (size : ℕ) {A : Type 0} (v : Verdict) (value : A) → held (So (placed_in sizes size)) v
    → read_stands size (read_as v value) ≡ true
gives sizes size v value h = rw (answer_read v value 0, place_read v value) (stands sizes size v 0 h)

inside : (size : ℕ) {A : Type 0} {cs : List Check} → Inside size cs → (value : A) → read_stands size (read_as (verdict cs) value) ≡ true
inside size {cs} a value = gives true size (verdict cs) value a.it

-- rule 1 before the others
with_room : (enough : Bool) (v : Verdict) (room count size : ℕ) → held (So (placed_in true size)) v
    → stands_in size (answer (cond enough v (broken (caption_room_check room).rule)) count)
    (place_of (cond enough v (broken (caption_room_check room).rule))) ≡ true
with_room true v room count size h = stands true size v count h
with_room false v room count size h = refl

-- a section and an entry answer as their verdicts do, at the same place
section_answer : (d : List ℕ) → read_answer (section_read d) 0 ≡ answer (verdict (section_checks d)) 0
unfolding section_read
section_answer d = answer_read (verdict (section_checks d)) _ 0

section_place : (d : List ℕ) → read_place (section_read d) ≡ place_of (verdict (section_checks d))
unfolding section_read
section_place d = place_read (verdict (section_checks d)) _

entry_answer : (e : List ℕ) → read_answer (entry_read e) 0 ≡ answer (verdict (entry_checks e)) 0
unfolding entry_read
entry_answer e = answer_read (verdict (entry_checks e)) _ 0

entry_place : (e : List ℕ) → read_place (entry_read e) ≡ place_of (verdict (entry_checks e))
unfolding entry_read
entry_place e = place_read (verdict (entry_checks e)) _

-- what a refused part gives where it stands: its own answer, at its own place behind the caller's
refused_there : (from : ℕ) (v : Verdict) (count : ℕ) → eqb (answer v 0).number 0 ≡ false
    → (answer (moved_verdict from v) count ≡ answer v 0) × (place_of (moved_verdict from v) ≡ from + place_of v)
refused_there from clear count h = absurd (true≢false h)
refused_there from (broken rule) count h = (refl, refl)

-- a section in a packet
module _ (p : List ℕ) (on : (flags_in p).svc_info ≡ true) (kept : verdict (before_section p) ≡ clear) where
  abbrev time : List Check
  time = when (flags_in p).time_code (time_code_checks p time_code_at)

  abbrev captions : List Check
  captions = when (flags_in p).cc_data (captions_checks p (captions_at p))

  abbrev services : List Check
  services = services_checks p (flags_in p) (services_at p)

  abbrev own : Verdict
  own = verdict (section_checks (own_section p))

  abbrev rest : List Check
  rest = captions ++ take 3 services

  section_is : eqb (answer own 0).number 0 ≡ false → verdict (packet_checks p) ≡ moved_verdict (services_at p) own
  section_is h =
      let i : ℕ = services_at p in
      let moves : eqb (answer (moved_verdict i own) 0).number 0 ≡ false = moved_refused i own h in
      let header : verdict (header_checks p) ≡ clear = append_first (header_checks p) (time ++ rest) kept in
      let behind : verdict (time ++ rest) ≡ clear = append_second (header_checks p) (time ++ rest) kept in
      let timed : verdict time ≡ clear = append_first time rest behind in
      let captioned : verdict captions ≡ clear = append_first captions (take 3 services) (append_second time rest behind) in
      let front : verdict (take 3 services) ≡ clear =
      append_second captions (take 3 services) (append_second time rest behind) in
      let moved_own : verdict (moved i (section_checks (own_section p))) ≡ moved_verdict i own =
      verdict_moved i (section_checks (own_section p)) in
      let served : verdict (when (flags_in p).svc_info services) ≡ moved_verdict i own =
      ap (λ (b : Bool). verdict (when b services)) on
      ∙ refused_behind (take 3 services) (moved i (section_checks (own_section p))) (flags_check p (flags_in p) i ∷ []) 0 front (rw moved_own moves)
      ∙ moved_own in
      in_order p ∙ rw (header, timed, captioned, served) (refused_stays (moved_verdict i own) _ 0 moves)

section_in_packet : (s : CDPParser) (p : List ℕ) (room : ℕ) → caption_room ≤ room → (flags_in p).svc_info ≡ true
    → verdict (before_section p) ≡ clear → refuses (read_answer (section_read (own_section p)) 0)
    → ((read s p room).answer ≡ read_answer (section_read (own_section p)) 0)
    × ((read s p room).place ≡ services_at p + read_place (section_read (own_section p)))
unfolding read
section_in_packet s p room enough on kept h =
    let undone : eqb (answer (own p on kept) 0).number 0 ≡ false = rw (section_answer (own_section p)) at h in
    let both = refused_there (services_at p) (own p on kept) (captions_length p) undone in
    rw (section_answer (own_section p), section_place (own_section p))
    (simp (le-leb _ _ enough, section_is p on kept undone) both)

-- an entry in a section: those in front of it are kept
kept_on : (d : List ℕ) (at k n : ℕ) → k < n → verdict (entry_list_checks d at k) ≡ clear
    → verdict (entry_list_checks d at n)
    ≡ verdict (moved (at + section_entry_size * k) (checks_at d (at + section_entry_size * k))
    ++ entry_list_checks d (at + section_entry_size * k + section_entry_size) (n - suc k))
kept_on d at k zero h v = absurd (omega arith)
kept_on d at zero (suc n) h v =
    let here : at ≡ at + section_entry_size * 0 = omega arith in
    let rest : n ≡ suc n - suc 0 = omega arith in
    ap₂ (λ (i m : ℕ). verdict (moved i (checks_at d i) ++ entry_list_checks d (i + section_entry_size) m)) here rest
kept_on d at (suc k) (suc n) h v =
    let mine : List Check = moved at (checks_at d at) in
    let next : ℕ = at + section_entry_size in
    let others : List Check = entry_list_checks d next k in
    let there : next + section_entry_size * k ≡ at + section_entry_size * suc k = omega arith in
    let rest : n - suc k ≡ suc n - suc (suc k) = omega arith in
    verdict_append mine (entry_list_checks d next n)
    ∙ ap (λ (w : Verdict). and_then w (verdict (entry_list_checks d next n))) (append_first mine others v)
    ∙ kept_on d next k n (omega arith) (append_second mine others v)
    ∙ ap₂ (λ (i m : ℕ). verdict (moved i (checks_at d i) ++ entry_list_checks d (i + section_entry_size) m)) there rest

module _ (d : List ℕ) (k : ℕ) (counted : k < count_of d) (kept : verdict (before_entry d k) ≡ clear) where
  abbrev at : ℕ
  at = section_length k

  abbrev own_rules : Verdict
  own_rules = verdict (entry_checks (own_entry d k))

  abbrev entries : List Check
  entries = entry_list_checks d section_head_size k

  abbrev head : List Check
  head = take 2 (checks_at d at)

  entry_is : eqb (answer own_rules 0).number 0 ≡ false
      → verdict (section_checks d) ≡ moved_verdict at (moved_verdict 1 own_rules)
  unfolding section_checks
  entry_is h =
      let later : List Check = entry_list_checks d (at + section_entry_size) (count_of d - suc k) in
      let moves : eqb (answer (moved_verdict 1 own_rules) 0).number 0 ≡ false = moved_refused 1 own_rules h in
      let frame : verdict (frame_checks d) ≡ clear = append_first (frame_checks d) (entries ++ moved at head) kept in
      let behind : verdict (entries ++ moved at head) ≡ clear =
      append_second (frame_checks d) (entries ++ moved at head) kept in
      let others : verdict entries ≡ clear = append_first entries (moved at head) behind in
      let header : verdict head ≡ clear = moved_kept at head (append_second entries (moved at head) behind) in
      let moved_own : verdict (moved 1 (entry_checks (own_entry d k))) ≡ moved_verdict 1 own_rules =
      verdict_moved 1 (entry_checks (own_entry d k)) in
      let here : verdict (checks_at d at) ≡ moved_verdict 1 own_rules =
      refused_behind head (moved 1 (entry_checks (own_entry d k))) (number_check d at ∷ []) 0 header (rw moved_own moves)
      ∙ moved_own in
      verdict_append (frame_checks d) (entry_list_checks d section_head_size (count_of d))
      ∙ rw frame
      (kept_on d section_head_size k (count_of d) counted others
      ∙ verdict_append (moved at (checks_at d at)) later
      ∙ ap (λ (v : Verdict). and_then v (verdict later)) (verdict_moved at (checks_at d at) ∙ ap (moved_verdict at) here)
      ∙ refused_stays (moved_verdict at (moved_verdict 1 own_rules)) (verdict later) 0
      (moved_refused at (moved_verdict 1 own_rules) moves))

entry_in_section : (d : List ℕ) (k : ℕ) → k < count_of d → verdict (before_entry d k) ≡ clear
    → refuses (read_answer (entry_read (own_entry d k)) 0)
    → (read_answer (section_read d) 0 ≡ read_answer (entry_read (own_entry d k)) 0)
    × (read_place (section_read d) ≡ section_length k + 1 + read_place (entry_read (own_entry d k)))
entry_in_section d k counted kept h =
    let own : Verdict = verdict (entry_checks (own_entry d k)) in
    let undone : eqb (answer own 0).number 0 ≡ false = rw (entry_answer (own_entry d k)) at h in
    let inner = refused_there 1 own 0 undone in
    let outer = refused_there (section_length k) (moved_verdict 1 own) 0 (moved_refused 1 own undone) in
    let further : section_length k + (1 + place_of own) ≡ section_length k + 1 + place_of own = omega arith in
    rw (
      section_answer d,
      section_place d,
      entry_answer (own_entry d k),
      entry_place (own_entry d k),
      entry_is d k counted kept undone,
    ) (
      outer.0 ∙ inner.0,
      outer.1 ∙ ap (λ (n : ℕ). section_length k + n) inner.1 ∙ further,
    )

pub places : Places
unfolding read packet_read section_read entry_read time_read header_read time_code_read captions_tested services_tested closing_read
    section_outcome entries_read checked_read
places =
    record {
      packet_stands = λ s p room.
          with_room (leb caption_room room) (verdict (packet_checks p)) room (captions_length p) (length p) (packet_inside p).it;
      section_stands = λ d. inside (length d) (section_inside d) _;
      entry_stands = λ e. gives false entry_length (verdict (entry_checks e)) _ (entry_within e).it;
      time_stands = λ h m s f. gives false 4 (verdict (time_checks h m s f)) _ (time_within h m s f).it;
      header_stands = λ p. inside (length p) (header_inside p) _;
      time_code_stands = λ p present i. inside (length p) (where_there present (time_code_inside p i)) _;
      captions_stand = λ p present i. inside (length p) (where_there present (captions_inside p i)) _;
      services_stand = λ p f i five. inside (length p) (where_there f.svc_info (services_inside p f i five)) _;
      closing_stands = λ p sequence i. inside (length p) (closing_inside p sequence i) tt;
      section_test_stands = λ d. inside (length d) (section_inside d) tt;
      entries_stand = λ d. inside (length d) (section_inside d) _;
      checked_stands = λ p. inside (length p) (packet_inside p) _;
      stateless_stands = λ p. inside (length p) (packet_inside p) _;
      section_in_packet = section_in_packet;
      entry_in_section = entry_in_section;
      packet_answers = λ s p room. answers_stay (read_checks p room) (captions_length p);
      section_answers = λ d. section_answer d ∙ answers_stay (section_checks d) 0;
      entry_answers = λ e. entry_answer e ∙ answers_stay (entry_checks e) 0;
      parts_stay = parts_stay;
    }
