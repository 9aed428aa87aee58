-- The plain words, case by case: numbers and bytes.
-- Assumes nothing.
use Rattle.std.proofs.Common.{
  ◌≡◌,
  ◌∙◌,
  sym,
  refl,
  ap,
  ap₂,
  ℕ,
  zero,
  suc,
  ◌+◌,
  ◌-◌,
  ◌*◌,
  ◌^◌,
  ◌≤◌,
  ◌<◌,
  Bool,
  true,
  false,
  List,
  [],
  ◌∷◌,
  ◌++◌,
  length,
  take,
  drop,
  get_or,
  Option,
  Some,
  None,
  if◌then◌else◌,
  ◌&&◌,
  arith,
  add-one,
  append_assoc,
}
use borrow.Author.Tests.{eqb-true, lt-leb, le-leb}
use lib.Dec.{eqb, ltb}
use lib.ListN.{set, drop_of_length-le, length-drop, length-set, get_or-eq_default}
use lib.Seq.{drop-cons, take-suc-set, drop-set-lt}
use Rattle.std.proofs.lemmas.List.{set-get_or}
use Rattle.std.proofs.lemmas.Option.{same_Some}
use Rattle.std.specs.Char.{is_ascii_digit}
use Rattle.basis.proofs.Puts.{over_nil}
use Rattle.basis.specs.Bytes.{byte, over}
use Rattle.tape.specs.Words.{
  ◌>>=◌,
  byte_at,
  bytes_in,
  decimal,
  digit_value,
  digits_of,
  mark_at,
  number_at,
  number_of_digits,
  pairs_at,
  pairs_from,
  word,
}
use Rattle.tape.specs.declared.words.Word.{Word}

decimal_grows : (v : ℕ) (ds : List ℕ) → v ≤ decimal v ds
unfolding decimal
decimal_grows v [] = omega arith
decimal_grows v (d ∷ ds) = omega (arith, decimal_grows (v * 10 + d) ds)

-- the digits before a place were read: the number so far, and how many there were
pub record DigitsRead (bytes : List ℕ) (value at : ℕ) : Type 0 where
  pub number : decimal 0 (digits_of bytes) ≡ decimal value (digits_of (drop at bytes))
  pub count : length (digits_of bytes) ≡ at + length (digits_of (drop at bytes))

module _ {bytes : List ℕ} {value at : ℕ} (so_far : DigitsRead bytes value at) where
  digits_more : at < length bytes → is_ascii_digit (byte bytes at) ≡ true
      → digits_of (drop at bytes) ≡ (byte bytes at - 48) ∷ digits_of (drop (at + 1) bytes)
  unfolding digits_of
  digits_more h d = rw (add-one at, drop-cons bytes at 0 h) (simp d)

  pub digits_next : (next : ℕ) → at < length bytes → is_ascii_digit (byte bytes at) ≡ true
      → next ≡ value * 10 + (byte bytes at - 48)
      → DigitsRead bytes next (at + 1)
  unfolding decimal
  digits_next next h d n =
      let more = digits_more h d in
      record {
        number =
            so_far.number
            ∙ ap (decimal value) more
            ∙ ap (λ (v : ℕ). decimal v (digits_of (drop (at + 1) bytes))) (sym n);
        count = omega (arith, so_far.count, ap length more);
      }

  -- no digit is left
  digits_all : digits_of (drop at bytes) ≡ []
      → (value ≡ decimal 0 (digits_of bytes)) × (at ≡ length (digits_of bytes))
  unfolding decimal
  digits_all none = (sym (so_far.number ∙ ap (decimal value) none), omega (arith, so_far.count, ap length none))

  pub digits_stopped : at < length bytes → is_ascii_digit (byte bytes at) ≡ false
      → (value ≡ decimal 0 (digits_of bytes)) × (at ≡ length (digits_of bytes))
  unfolding digits_of
  digits_stopped h d = digits_all (rw (drop-cons bytes at 0 h) (simp d))

  pub digits_ended : at ≡ length bytes
      → (value ≡ decimal 0 (digits_of bytes)) × (length bytes ≡ length (digits_of bytes))
  unfolding digits_of
  digits_ended h =
      let past : length bytes ≤ at = omega arith in
      let ended = digits_all (rw (drop_of_length-le bytes {i = at} past)) in
      (ended.0, sym h ∙ ended.1)

  -- the number is too large with this digit, and so with those behind it
  pub digits_over : at < length bytes → is_ascii_digit (byte bytes at) ≡ true
      → 2 ^ 32 ≤ value * 10 + (byte bytes at - 48)
      → 2 ^ 32 ≤ decimal 0 (digits_of bytes)
  digits_over h d over =
      let next : ℕ = value * 10 + (byte bytes at - 48) in
      omega (arith, (digits_next next h d refl).number, decimal_grows next (digits_of (drop (at + 1) bytes)))

digits_within : (bytes : List ℕ) → length (digits_of bytes) ≤ length bytes
unfolding digits_of
digits_within [] = omega arith
digits_within (c ∷ cs) = by_test (is_ascii_digit c) (digits_within cs)
  where
    by_test : (t : Bool) → length (digits_of cs) ≤ length cs
        → length (if t then (c - 48) ∷ digits_of cs else []) ≤ length (c ∷ cs)
    by_test true h = omega arith
    by_test false h = omega arith

-- a number, by its digits
module _ (at most : ℕ) where
  over_of : (ds : List ℕ) → most < decimal 0 ds → None ≡ number_of_digits ds at most
  over_of [] h = refl
  over_of (d ∷ ds) h = simp (lt-leb _ _ h)

  found_of : (ds : List ℕ) → (length ds ≡ 0 → ⊥) → decimal 0 ds ≤ most
      → Some (word (decimal 0 ds) (at + length ds)) ≡ number_of_digits ds at most
  found_of [] n h = absurd (n refl)
  found_of (d ∷ ds) n h = simp (le-leb _ _ h)

  none_of : (ds : List ℕ) → length ds ≡ 0 → None ≡ number_of_digits ds at most
  none_of [] h = refl
  none_of (d ∷ ds) h = absurd (omega arith)

module _ (line : List ℕ) (at most : ℕ) where
  pub number_past : length line ≤ at → None ≡ number_at line at most
  unfolding number_at digits_of
  number_past h = rw (drop_of_length-le line {i = at} h)

  module _ (rest : List ℕ) (same : rest ≡ drop at line) where
    pub number_over : most < decimal 0 (digits_of rest) → None ≡ number_at line at most
    unfolding number_at
    number_over h = rw (← same) (over_of at most (digits_of rest) h)

    pub number_none : length (digits_of rest) ≡ 0 → None ≡ number_at line at most
    unfolding number_at
    number_none h = rw (← same) (none_of at most (digits_of rest) h)

    pub number_found : (v n : ℕ) → v ≡ decimal 0 (digits_of rest) → n ≡ length (digits_of rest) → (n ≡ 0 → ⊥)
        → v ≤ most
        → Some (word v (at + n)) ≡ number_at line at most
    unfolding number_at
    number_found v n e f h m =
        rw (← same, e, f) (found_of at most (digits_of rest) (λ z. h (f ∙ z)) (omega (arith, e)))

    pub number_within : at ≤ length line → at + length (digits_of rest) ≤ length line
    number_within h = omega (arith, digits_within rest, ap length same, length-drop at line)

-- past the end there is no digit
none_behind : (o : Option ℕ) → ◌≡◌ {A = Option (Word ℕ)} None (o >>= λ (_ : ℕ). None)
none_behind None = refl
none_behind (Some x) = refl

module _ (line : List ℕ) (at : ℕ) where
  pub byte_past : length line ≤ at + 1 → None ≡ byte_at line at
  unfolding byte_at digit_value
  byte_past h =
      let zero_there : byte line (at + 1) ≡ 0 = get_or-eq_default line 0 {n = at + 1} h in
      rw zero_there (none_behind (digit_value (byte line at)))

  pub byte_behind : (w : Word ℕ) → byte_at line at ≡ Some w → w.next ≡ at + 2
  unfolding byte_at
  byte_behind w = by_digits (digit_value (byte line at)) (digit_value (byte line (at + 1)))
    where
      by_digits : (high low : Option ℕ)
          → (high >>= λ (h : ℕ). low >>= λ (l : ℕ). Some (word (h * 16 + l) (at + 2))) ≡ Some w
          → w.next ≡ at + 2
      by_digits None low e = absurd cc
      by_digits (Some h) None e = absurd cc
      by_digits (Some h) (Some l) e = sym (ap (λ (v : Word ℕ). v.next) (same_Some _ _ e))

  -- no byte begins with a dash
  byte_dash : byte line at ≡ 45 → byte_at line at ≡ None
  unfolding byte_at digit_value
  byte_dash h = rw h

  mark_byte : (mark next : ℕ) → mark_at line at mark ≡ Some next → byte line at ≡ mark
  unfolding mark_at
  mark_byte mark next = by_test (ltb at (length line)) (eqb (byte line at) mark) refl
    where
      by_test : (a b : Bool) → eqb (byte line at) mark ≡ b → (if a && b then Some (at + 1) else None) ≡ Some next
          → byte line at ≡ mark
      by_test true true e h = eqb-true _ _ e
      by_test true false e h = absurd cc
      by_test false b e h = absurd cc

  -- bytes, one after the other
  pairs_stop : (room : ℕ) → byte_at line at ≡ None → pairs_from room line at ≡ []
  unfolding pairs_from
  pairs_stop zero h = refl
  pairs_stop (suc room) h = rw (h, pairs_from)

  pairs_more : (room : ℕ) (w : Word ℕ) → byte_at line at ≡ Some w
      → pairs_from (suc room) line at ≡ w.value ∷ pairs_from room line w.next
  unfolding pairs_from
  pairs_more room w h = rw (h, pairs_from)

-- the first of some bytes put, and then the others
over_first : (k v : ℕ) (vs buffer : List ℕ) → k < length buffer
    → over k (v ∷ vs) buffer ≡ over (k + 1) vs (set buffer k v)
unfolding over
over_first k v vs buffer h =
    let head : take (k + 1) (set buffer k v) ≡ take k buffer ++ v ∷ [] = rw (add-one k) (take-suc-set buffer k v h) in
    let tail : drop (k + 1 + length vs) (set buffer k v) ≡ drop (k + 1 + length vs) buffer =
    drop-set-lt (k + 1 + length vs) buffer k v (omega arith) in
    let end : k + length (v ∷ vs) ≡ k + 1 + length vs = omega arith in
    rw (head, tail, end) (simp append_assoc)

-- so many bytes were put, and those from this place on are left
pub record PairsRead (line : List ℕ) (from : ℕ) (given₀ given : List ℕ) (at k : ℕ) : Type 0 where
  pub within : k ≤ length given₀
  pub same : length given ≡ length given₀
  pub place : at ≡ from + 2 * k
  pub count : length (pairs_from (length given₀) line from) ≡ k + length (pairs_from (length given₀ - k) line at)
  pub put : over 0 (pairs_from (length given₀) line from) given₀ ≡ over k (pairs_from (length given₀ - k) line at) given

pub pairs_none : (line : List ℕ) (from : ℕ) (given₀ : List ℕ) → PairsRead line from given₀ given₀ from 0
pairs_none line from given₀ =
    let all : length given₀ - 0 ≡ length given₀ = omega arith in
    record {
      within = omega arith;
      same = refl;
      place = omega arith;
      count = rw all (omega arith);
      put = rw all;
    }

module _ {line : List ℕ} {from : ℕ} {given₀ given : List ℕ} {at k : ℕ}
    (so_far : PairsRead line from given₀ given at k) where
  pub pairs_next : (w : Word ℕ) → k < length given₀ → Some w ≡ byte_at line at
      → PairsRead line from given₀ (set given k w.value) w.next (k + 1)
  pairs_next w h e =
      let left : ℕ = length given₀ - (k + 1) in
      let room : length given₀ - k ≡ suc left = omega arith in
      let more : pairs_from (length given₀ - k) line at ≡ w.value ∷ pairs_from left line w.next =
      rw room (pairs_more line at left w (sym e)) in
      record {
        within = omega arith;
        same = length-set given k w.value ∙ so_far.same;
        place = omega (arith, so_far.place, byte_behind line at w (sym e));
        count = omega (arith, so_far.count, ap length more);
        put =
            so_far.put
            ∙ ap (λ (vs : List ℕ). over k vs given) more
            ∙ over_first k w.value (pairs_from left line w.next) given (omega (arith, so_far.same));
      }

  -- what the reading of the bytes gives, once none is left
  abbrev Ended : ℕ → Type 0
  Ended count = (word count at ≡ pairs_at (length given₀) line from) × (given ≡ bytes_in given₀ line from)

  pairs_all : pairs_from (length given₀ - k) line at ≡ [] → Ended k
  unfolding pairs_at bytes_in
  pairs_all none =
      let n : k ≡ length (pairs_from (length given₀) line from) = omega (arith, so_far.count, ap length none) in
      let next : at ≡ from + 2 * length (pairs_from (length given₀) line from) = omega (arith, n, so_far.place) in
      (ap₂ word n next, sym (so_far.put ∙ ap (λ (vs : List ℕ). over k vs given) none ∙ over_nil k given))

  -- the place that was looked at has what it had
  pub pairs_stopped : None ≡ byte_at line at
      → (word k at ≡ pairs_at (length given₀) line from) × (set given k (get_or given k 0) ≡ bytes_in given₀ line from)
  pairs_stopped e =
      let ended = pairs_all (pairs_stop line at (length given₀ - k) (sym e)) in
      (ended.0, set-get_or given k 0 ∙ ended.1)

  pub pairs_full : length given₀ ≤ k → Ended (length given)
  unfolding pairs_from
  pairs_full h =
      let none : length given₀ - k ≡ 0 = omega arith in
      let all : length given ≡ k = omega (arith, so_far.same, so_far.within) in
      rw all (pairs_all (rw none))

-- behind a dash nothing is put
pub bytes_dash : (given line : List ℕ) (at next : ℕ) → Some next ≡ mark_at line at 45 → given ≡ bytes_in given line at
unfolding bytes_in
bytes_dash given line at next e =
    let none : pairs_from (length given) line at ≡ [] =
    pairs_stop line at (length given) (byte_dash line at (mark_byte line at 45 next (sym e))) in
    rw none (sym (over_nil 0 given))
