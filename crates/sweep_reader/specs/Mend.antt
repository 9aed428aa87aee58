-- The checksum made right.
use Rattle.std.specs.Prelude.{ℕ, ◌+◌, ◌-◌, cond, List, length, take, ◌==◌, nat_le, slice_set}
use Rattle.basis.specs.Bytes.{byte}
use Rattle.values.specs.Checksum.{total, negative}

-- how far from the end the byte stands that mends: the checksum byte, or where bytes follow it the first of these
abbrev pub mender : ℕ → ℕ
mender behind = cond (behind == 0) 1 behind

-- the sum that has to be 0: that of all bytes but the last, and the checksum byte
abbrev pub sum_of : ℕ → List ℕ → ℕ
sum_of behind p = total (take (length p - 1) p) + byte p (length p - (behind + 1))

-- the packet with another byte that mends
abbrev pub mended_with : ℕ → List ℕ → ℕ → List ℕ
mended_with behind p b = slice_set p (length p - mender behind) b

-- the byte that mends is the negative of the sum without it; what is shorter than a footer's end stays as it is
unfoldable pub packet_mended : ℕ → List ℕ → List ℕ
packet_mended behind p =
    cond (nat_le (behind + 1) (length p)) (mended_with behind p (negative (sum_of behind (mended_with behind p 0)))) p
