-- The runs of a predicate: a value is in one of them where it is asked for, they ascend and do not touch, and how long their
-- text can be.
-- Assumes nothing.
use mathlib.Core.Bool.{Bool, true, false, cond, ◌&&◌, ◌||◌, and-false, or_assoc, or-false, or-true}
use mathlib.Core.List.{List, [], ◌∷◌, ◌++◌}
use mathlib.Core.Path.{◌≡◌, ◌∙◌, sym, refl, ap}
use Prim.Native.Nat.{ℕ, zero, suc, ◌+◌, ◌*◌, ◌≤◌, ◌<◌}
use native.Mathlib.Omega.{arith}
use borrow.Author.Tests.{eqb-false, eqb-true, le-leb, leb-false, leb-true, lt-leb, ltb-false, ltb-true}
use lib.Dec.{eqb, leb, ltb}
use lib.ListN.{length, length-append}
use Rattle.text.proofs.Sizes.{hex_size}
use Rattle.text.specs.Ascii.{ascii}
use Rattle.text.specs.Digits.{hex_after, hex_text}
use Rattle.text_values.specs.Runs.{
  Apart,
  Run,
  Scanned,
  among,
  grown,
  run_text,
  runs_of,
  runs_so_far,
  runs_text,
  scanned,
  shut,
}
use Rattle.std.specs.Prelude.{Option, Some, None}

-- the least value that a run behind these may begin with
abbrev next_low : ℕ → List Run → ℕ
next_low least [] = least
next_low least (run ∷ runs) = next_low (run.high + 2) runs

-- one run behind others
among_more : (v : ℕ) (runs : List Run) (run : Run)
    → among v (runs ++ run ∷ []) ≡ among v runs || (leb run.low v && leb v run.high)
among_more v [] run = or-false (leb run.low v && leb v run.high)
among_more v (first ∷ runs) run =
    ap (λ (b : Bool). (leb first.low v && leb v first.high) || b) (among_more v runs run)
    ∙ sym (or_assoc (leb first.low v && leb v first.high) (among v runs) (leb run.low v && leb v run.high))

apart_more : (least : ℕ) (runs : List Run) (run : Run) → Apart least runs → next_low least runs ≤ run.low
    → run.low ≤ run.high
    → Apart least (runs ++ run ∷ [])
apart_more least [] run a h k = (h, k, tt)
apart_more least (first ∷ runs) run a h k = (a.0, a.1, apart_more (first.high + 2) runs run a.2 h k)

next_more : (least : ℕ) (runs : List Run) (run : Run) → next_low least (runs ++ run ∷ []) ≡ run.high + 2
next_more least [] run = refl
next_more least (first ∷ runs) run = next_more (first.high + 2) runs run

-- what holds of the values below n: those that have ended are apart, and so is the one that goes on, which ends with the last
record Spaced (n : ℕ) (s : Scanned) : Type 0 where
  apart : Apart 0 s.ended
  going : (run : Run) → s.going ≡ Some run → (next_low 0 s.ended ≤ run.low) × (run.low ≤ run.high) × (run.high + 1 ≡ n)
  idle : s.going ≡ None → next_low 0 s.ended ≤ n

-- of a scan by the run that goes on
spaced_on : (n : ℕ) (ended : List Run) (run : Run) → Apart 0 ended → next_low 0 ended ≤ run.low → run.low ≤ run.high
    → run.high + 1 ≡ n
    → Spaced n (record { ended = ended; going = Some run })
spaced_on n ended run a h k e = record { apart = a; going = λ other same. same_run other same; idle = λ same. absurd (cc same) }
  where
    same_run : (other : Run) → Some run ≡ Some other → (next_low 0 ended ≤ other.low) × (other.low ≤ other.high) × (other.high + 1 ≡ n)
    same_run other same =
        let is : run ≡ other = cc same in
        rw (← is) (h, k, e)

spaced_off : (n : ℕ) (ended : List Run) → Apart 0 ended → next_low 0 ended ≤ n → Spaced n (record { ended = ended; going = None })
spaced_off n ended a h = record { apart = a; going = λ run same. absurd (cc same); idle = λ same. h }

spaced_grown : (n : ℕ) (s : Scanned) (going : Option Run) → s.going ≡ going → Spaced n s → Spaced (suc n) (grown s n)
spaced_grown n s (Some run) e p =
    let g = p.going run e in
    rw e (spaced_on (suc n) s.ended (record { low = run.low; high = n }) p.apart g.0 (omega (arith, g)) (omega arith))
spaced_grown n s None e p =
    rw e (spaced_on (suc n) s.ended (record { low = n; high = n }) p.apart (p.idle e) (omega arith) (omega arith))

spaced_shut : (n : ℕ) (s : Scanned) (going : Option Run) → s.going ≡ going → Spaced n s → Spaced (suc n) (shut s)
spaced_shut n s (Some run) e p =
    let g = p.going run e in
    rw e
    (spaced_off (suc n) (s.ended ++ run ∷ []) (apart_more 0 s.ended run p.apart g.0 g.1)
    (rw (next_more 0 s.ended run) (omega (arith, g))))
spaced_shut n s None e p = rw e (spaced_off (suc n) s.ended p.apart (omega (arith, p.idle e)))

spaced_step : (n : ℕ) (s : Scanned) (taken : Bool) → Spaced n s → Spaced (suc n) (cond taken (grown s n) (shut s))
spaced_step n s true p = spaced_grown n s s.going refl p
spaced_step n s false p = spaced_shut n s s.going refl p

spaced : (asked : ℕ → Bool) (n : ℕ) → Spaced n (scanned asked n)
unfolding scanned
spaced asked zero = spaced_off 0 [] tt (omega arith)
spaced asked (suc n) = spaced_step n (scanned asked n) (asked n) (spaced asked n)

-- a value that is taken is in the runs from then on, and of the others none more
new_taken : (n : ℕ) (s : Scanned) (going : Option Run) → s.going ≡ going → Spaced n s → among n (runs_so_far (grown s n)) ≡ true
new_taken n s (Some run) e p =
    let g = p.going run e in
    rw (
      e,
      among_more n s.ended (record { low = run.low; high = n }),
      le-leb run.low n (omega (arith, g)),
      le-leb n n (omega arith),
    )
    (or-true (among n s.ended))
new_taken n s None e p =
    rw (e, among_more n s.ended (record { low = n; high = n }), le-leb n n (omega arith)) (or-true (among n s.ended))

-- up to n and up to the value before it are the same but for n
up_to : (v n high : ℕ) (below : Bool) → leb v n ≡ below → (v ≡ n → ⊥) → high + 1 ≡ n → below ≡ leb v high
up_to v n high true e h k = sym (le-leb v high (omega (arith, leb-true v n e)))
up_to v n high false e h k = sym (lt-leb v high (omega (arith, leb-false v n e)))

-- no value but n is from n to n
alone : (v n : ℕ) (below : Bool) → leb v n ≡ below → (v ≡ n → ⊥) → (leb n v && below) ≡ false
alone v n true e h = rw (lt-leb n v (omega (arith, leb-true v n e)))
alone v n false e h = and-false (leb n v)

others_same : (n : ℕ) (s : Scanned) (going : Option Run) → s.going ≡ going → Spaced n s → (v : ℕ) → (v ≡ n → ⊥)
    → among v (runs_so_far (grown s n)) ≡ among v (runs_so_far s)
others_same n s (Some run) e p v h =
    rw (
      e,
      among_more v s.ended (record { low = run.low; high = n }),
      among_more v s.ended run,
      up_to v n run.high (leb v n) refl h (p.going run e).2,
    )
others_same n s None e p v h =
    rw (e, among_more v s.ended (record { low = n; high = n }), alone v n (leb v n) refl h) (or-false (among v s.ended))

-- what holds of the runs of the values below n
record Kept (asked : ℕ → Bool) (n : ℕ) (s : Scanned) : Type 0 where
  inside : (v : ℕ) → v < n → among v (runs_so_far s) ≡ asked v
  outside : (v : ℕ) → n ≤ v → among v (runs_so_far s) ≡ false

-- a value below the next number is below this one or is it
last_or_below : (v n : ℕ) (same : Bool) (P : ℕ → Type 0) → eqb v n ≡ same → v < suc n → P n → ((v ≡ n → ⊥) → P v) → P v
last_or_below v n true P e h is others = rw (eqb-true v n e) is
last_or_below v n false P e h is others = others (eqb-false v n e)

kept_step : (asked : ℕ → Bool) (n : ℕ) (s : Scanned) (taken : Bool) → asked n ≡ taken → Spaced n s → Kept asked n s
    → Kept asked (suc n) (cond taken (grown s n) (shut s))
kept_step asked n s true e p k =
    record {
      inside = λ v h. last_or_below v n (eqb v n) (λ (x : ℕ). among x (runs_so_far (grown s n)) ≡ asked x) refl h
          (new_taken n s s.going refl p ∙ sym e)
          (λ (other : v ≡ n → ⊥). others_same n s s.going refl p v other ∙ k.inside v (omega (arith, h, other)));
      outside = λ v h. others_same n s s.going refl p v (λ (x : v ≡ n). omega arith) ∙ k.outside v (omega (arith, h));
    }
kept_step asked n s false e p k =
    record {
      inside = λ v h. last_or_below v n (eqb v n) (λ (x : ℕ). among x (runs_so_far s) ≡ asked x) refl h
          (k.outside n (omega arith) ∙ sym e)
          (λ (other : v ≡ n → ⊥). k.inside v (omega (arith, h, other)));
      outside = λ v h. k.outside v (omega (arith, h));
    }

kept : (asked : ℕ → Bool) (n : ℕ) → Kept asked n (scanned asked n)
unfolding scanned
kept asked zero = record { inside = λ v h. absurd (omega (arith, h)); outside = λ v h. refl }
kept asked (suc n) = kept_step asked n (scanned asked n) (asked n) refl (spaced asked n) (kept asked n)

-- the runs so far are apart, and the last of them ends below n
spaced_apart : (n : ℕ) (s : Scanned) (going : Option Run) → s.going ≡ going → Spaced n s
    → Apart 0 (runs_so_far s) × (next_low 0 (runs_so_far s) ≤ n + 1)
spaced_apart n s (Some run) e p =
    let g = p.going run e in
    rw e (
      apart_more 0 s.ended run p.apart g.0 g.1,
      rw (next_more 0 s.ended run) (omega (arith, g)),
    )
spaced_apart n s None e p = rw e (p.apart, omega (arith, p.idle e))

-- the text of a run is shorter than twice what it moves the next one on by
run_most : (run : Run) (one : Bool) → eqb run.low run.high ≡ one → run.low ≤ run.high
    → length (run_text run) + 1 + 2 * run.low ≤ 2 * (run.high + 2)
unfolding run_text
run_most run true e h = rw e (omega (arith, hex_size run.low))
run_most run false e h =
    rw e
    (omega (
      arith,
      eqb-false run.low run.high e,
      hex_size run.low,
      hex_size run.high,
      length-append (hex_text run.low) (hex_after "-" run.high),
    ))

text_most : (least : ℕ) (runs : List Run) → Apart least runs → length (runs_text runs) + 2 * least ≤ 2 * next_low least runs
text_most least [] a = omega arith
text_most least (run ∷ []) a = omega (arith, a.0, run_most run (eqb run.low run.high) refl a.1)
text_most least (run ∷ next ∷ runs) a =
    omega (
      arith,
      a.0,
      run_most run (eqb run.low run.high) refl a.1,
      text_most (run.high + 2) (next ∷ runs) a.2,
      length-append (run_text run) (ascii "," ++ runs_text (next ∷ runs)),
    )

module _ (asked : ℕ → Bool) where
  -- a number is in one of the runs exactly where it is a byte's value and is asked for
  pub runs_taken : (v : ℕ) → among v (runs_of asked) ≡ (ltb v 256 && asked v)
  unfolding runs_of
  runs_taken v = as_byte v (ltb v 256) refl
    where
      as_byte : (v : ℕ) (below : Bool) → ltb v 256 ≡ below → among v (runs_so_far (scanned asked 256)) ≡ (below && asked v)
      as_byte v true e = (kept asked 256).inside v (ltb-true v 256 e)
      as_byte v false e = (kept asked 256).outside v (ltb-false v 256 e)

  -- they ascend, and no two touch
  pub runs_apart : Apart 0 (runs_of asked)
  unfolding runs_of
  runs_apart = (spaced_apart 256 (scanned asked 256) (scanned asked 256).going refl (spaced asked 256)).0

  -- their text: with what stands between, two digits for each value at most
  pub runs_most : length (runs_text (runs_of asked)) ≤ 514
  unfolding runs_of
  runs_most =
      let so_far = spaced_apart 256 (scanned asked 256) (scanned asked 256).going refl (spaced asked 256) in
      omega (arith, so_far.1, text_most 0 (runs_so_far (scanned asked 256)) so_far.0)
