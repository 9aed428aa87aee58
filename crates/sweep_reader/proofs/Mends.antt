-- The byte that mends, and the packet with it.
-- Assumes nothing.
use Rattle.std.proofs.Common.{◌≡◌, ℕ, ◌+◌, ◌-◌, ◌%◌, ◌<◌, ◌≤◌, Bool, true, false, cond, leb, List, [], ◌∷◌, fold, length, take, set, refl, ◌∙◌, arith, length-set, set-set, le-leb}
use borrow.Author.Tests.{lt-leb}
use Rattle.basis.specs.Bytes.{byte}
use Rattle.values.specs.Checksum.{negative, total}
use Rattle.sweep_reader.specs.Make.{finished}
use Rattle.sweep_reader.specs.Mend.{packet_mended, mender, sum_of}

pub mend_short : (behind : ℕ) (p : List ℕ) → length p < behind + 1 → p ≡ packet_mended behind p
unfolding packet_mended
mend_short behind p h = simp (lt-leb _ _ h)

pub mend_byte : (behind size s rest r : ℕ) (q : List ℕ) → length q ≡ size → s ≡ total (take (size - 1) q) % 256
    → rest ≡ (s + byte q (size - (behind + 1))) % 256 → (r + rest) % 256 ≡ 0 → r < 256 → r ≡ negative (sum_of behind q)
mend_byte behind size s rest r q h e f g l = rw h (omega arith)

pub mend_done : (behind at r : ℕ) (p : List ℕ) → behind + 1 ≤ length p → at ≡ length p - mender behind
    → r ≡ negative (sum_of behind (set p at 0)) → set (set p at 0) at r ≡ packet_mended behind p
unfolding packet_mended
mend_done behind at r p h place e = simp (le-leb _ _ h) (rw (← place, set-set p at 0 r, e))

-- mending changes no length
length_either : (b : Bool) (i v : ℕ) (p : List ℕ) → length (cond b (set p i v) p) ≡ length p
length_either true i v p = length-set p i v
length_either false i v p = refl

length_mended : (behind : ℕ) (p : List ℕ) → length (packet_mended behind p) ≡ length p
unfolding packet_mended
length_mended behind p = length_either (leb (behind + 1) (length p)) _ _ p

pub length_finished : (behind : ℕ) (p : List ℕ) → length (finished behind p) ≡ length p
unfolding finished
length_finished behind p = length_mended behind _ ∙ length-set p 2 _

-- bytes added one after the other, modulo 256
added : (s : ℕ) (bytes : List ℕ) → fold (λ (a b : ℕ). (a + b) % 256) (s % 256) bytes ≡ (s + total bytes) % 256
added s [] = omega arith
added s (b ∷ bytes) = added (s % 256 + b) bytes ∙ omega arith

pub sum_folded : (bytes : List ℕ) → fold (λ (a b : ℕ). (a + b) % 256) 0 bytes ≡ total bytes % 256
sum_folded bytes = added 0 bytes ∙ omega arith
