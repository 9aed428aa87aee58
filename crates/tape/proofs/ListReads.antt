-- The entries of a list, one after the other, and the list that holds them.
-- Assumes nothing.
use Rattle.std.proofs.Common.{
  ◌≡◌,
  ◌∙◌,
  sym,
  refl,
  ap,
  ap₂,
  ℕ,
  zero,
  suc,
  ◌+◌,
  ◌-◌,
  ◌≤◌,
  ◌<◌,
  Bool,
  true,
  false,
  cond,
  List,
  [],
  ◌∷◌,
  ◌++◌,
  length,
  take,
  Option,
  Some,
  None,
  arith,
  append_assoc,
  append-nil,
  length-append,
}
use borrow.Author.Tests.{ltb-true, ltb-false}
use lib.Dec.{ltb}
use lib.ListN.{set}
use lib.Seq.{take_all, take-append-le}
use Rattle.service_entry.specs.declared.entry.ServiceEntry.{ServiceEntry}
use Rattle.service_entries.proofs.SectionEntries.{filled_more}
use Rattle.service_entries.specs.Entries.{filled}
use Rattle.service_list.specs.declared.list.ServiceInfo.{ServiceInfo}
use Rattle.tape.specs.Lists.{with_one_more, entries_at, entries_from, entry_at, list_counting}
use Rattle.tape.specs.Words.{◌>>=◌, mark_at, word}
use Rattle.tape.specs.declared.words.Word.{Word}

longer : (es : List ServiceEntry) (e : ServiceEntry) → length es + 1 ≡ length (es ++ e ∷ [])
longer es e = simp length-append (omega arith)

module _ (start change complete : Bool) where
  -- what the places hold, with and without room for one more
  places_more : (es : List ServiceEntry) (e : ServiceEntry) (t : Bool) → ltb (length es) 15 ≡ t
      → cond t (set (filled (take 15 es)) (length es) e) (filled (take 15 es)) ≡ filled (take 15 (es ++ e ∷ []))
  places_more es e true h =
      let room : length es < 15 = ltb-true _ _ h in
      let all : take 15 es ≡ es = take_all 15 es (omega arith) in
      let more : take 15 (es ++ e ∷ []) ≡ es ++ e ∷ [] = take_all 15 (es ++ e ∷ []) (omega (arith, longer es e)) in
      rw (all, more) (filled_more es e room)
  places_more es e false h = ap filled (sym (take-append-le 15 es (e ∷ []) (ltb-false _ _ h)))

  counted_more : (es : List ServiceEntry) (e : ServiceEntry)
      → with_one_more (list_counting start change complete es) e ≡ list_counting start change complete (es ++ e ∷ [])
  unfolding with_one_more list_counting
  counted_more es e =
      ap₂ (λ (s : List ServiceEntry) (n : ℕ).
      record { start = start; change = change; complete = complete; services = s; count = n })
      (places_more es e (ltb (length es) 15) refl) (longer es e)

-- entries behind others
abbrev behind : List ServiceEntry → Option (Word (List ServiceEntry)) → Option (Word (List ServiceEntry))
behind before rest = rest >>= λ (es : Word (List ServiceEntry)). Some (word (before ++ es.value) es.next)

behind_none : (rest : Option (Word (List ServiceEntry))) → rest ≡ behind [] rest
behind_none None = refl
behind_none (Some es) = refl

behind_more : (before : List ServiceEntry) (e : ServiceEntry) (rest : Option (Word (List ServiceEntry)))
    → behind before (behind (e ∷ []) rest) ≡ behind (before ++ e ∷ []) rest
behind_more before e None = refl
behind_more before e (Some es) =
    ap (λ (l : List ServiceEntry). Some (word l es.next)) (sym (append_assoc before (e ∷ []) es.value))

-- the entries before a place are held, and those from there on are left
pub record EntriesRead (line : List ℕ) (from : ℕ) (start change complete : Bool)
    (l : ServiceInfo) (at k : ℕ) : Type 0 where
  pub before : List ServiceEntry
  pub within : k ≤ length line
  pub few : length before ≡ k
  pub held : l ≡ list_counting start change complete before
  pub all : entries_from (length line) line from ≡ behind before (entries_from (length line - k) line at)

module _ (line : List ℕ) (at : ℕ) where
  entries_stop : (n : ℕ) → mark_at line at 59 ≡ None → entries_from n line at ≡ Some (word [] at)
  unfolding entries_from
  entries_stop zero h = refl
  entries_stop (suc n) h = rw (h, entries_from)

  module _ (n to : ℕ) (marked : mark_at line at 59 ≡ Some to) where
    entries_bad : entry_at line to ≡ None → entries_from (suc n) line at ≡ None
    unfolding entries_from
    entries_bad h = rw (marked, h, entries_from)

    entries_more : (w : Word ServiceEntry) → entry_at line to ≡ Some w
        → entries_from (suc n) line at ≡ behind (w.value ∷ []) (entries_from n line w.next)
    unfolding entries_from
    entries_more w h = rw (marked, h, entries_from)

pub entries_none : (line : List ℕ) (from : ℕ) (start change complete : Bool) (l : ServiceInfo)
    → l ≡ list_counting start change complete []
    → EntriesRead line from start change complete l from 0
entries_none line from start change complete l e =
    let same : length line - 0 ≡ length line = omega arith in
    record {
      before = [];
      within = omega arith;
      few = refl;
      held = e;
      all = rw same (behind_none (entries_from (length line) line from));
    }

module _ {line : List ℕ} {from : ℕ} {start change complete : Bool} {l : ServiceInfo} {at k : ℕ}
    (so_far : EntriesRead line from start change complete l at k) where
  -- so many are counted
  pub entries_count : l.count ≡ k
  unfolding list_counting
  entries_count = rw so_far.held so_far.few

  module _ (to : ℕ) (within : k < length line) (marked : Some to ≡ mark_at line at 59) where
    pub entries_next : (w : Word ServiceEntry) (more : ServiceInfo) → Some w ≡ entry_at line to
        → more ≡ with_one_more l w.value
        → EntriesRead line from start change complete more w.next (k + 1)
    entries_next w more e m =
        let left : ℕ = length line - (k + 1) in
        let room : length line - k ≡ suc left = omega arith in
        let step : entries_from (length line - k) line at ≡ behind (w.value ∷ []) (entries_from left line w.next) =
        rw room (entries_more line at left to (sym marked) w (sym e)) in
        record {
          before = so_far.before ++ w.value ∷ [];
          within = omega arith;
          few = simp length-append (omega (arith, so_far.few));
          held =
              m
              ∙ ap (λ (s : ServiceInfo). with_one_more s w.value) so_far.held
              ∙ counted_more start change complete so_far.before w.value;
          all =
              so_far.all
              ∙ ap (behind so_far.before) step
              ∙ behind_more so_far.before w.value (entries_from left line w.next);
        }

    pub entries_malformed : None ≡ entry_at line to → None ≡ entries_at line from start change complete
    unfolding entries_at
    entries_malformed e =
        let left : ℕ = length line - (k + 1) in
        let room : length line - k ≡ suc left = omega arith in
        let step : entries_from (length line - k) line at ≡ None =
        rw room (entries_bad line at left to (sym marked) (sym e)) in
        rw (so_far.all, step)

  entries_all : entries_from (length line - k) line at ≡ Some (word [] at)
      → Some (word l at) ≡ entries_at line from start change complete
  unfolding entries_at
  entries_all none = rw (so_far.all, none, append-nil so_far.before, so_far.held)

  pub entries_stopped : None ≡ mark_at line at 59 → Some (word l at) ≡ entries_at line from start change complete
  entries_stopped e = entries_all (entries_stop line at (length line - k) (sym e))

  pub entries_full : length line ≤ k → Some (word l at) ≡ entries_at line from start change complete
  unfolding entries_from
  entries_full h =
      let none : length line - k ≡ 0 = omega arith in
      entries_all (rw none)
