-- `values::checksum::sum`: after so many turns the sum is that of as many first bytes, modulo 256.
-- Assumes nothing.
use Rattle.std.proofs.Common.{◌<◌, length, arith}
use Rattle.values.proofs.Sums.{total_take}
use Rattle.values.proofs.checksum.sum.Goals as goal

pub loop-byte-preserved : goal.loop-byte-preserved
loop-byte-preserved c =
    let h : c.loop-byte.byte-index < length c.args.bytes.now = omega arith in
    rw (total_take _ _ h) (omega (arith, c.wrapping_add_u8-sum.ensures.value))
