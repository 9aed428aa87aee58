-- `basis::buffer::copy`: the part that the bytes are copied to becomes these bytes.
-- Assumes nothing.
use Rattle.std.proofs.Common.{arith}
use Rattle.basis.proofs.Puts.{copied_over}
use Rattle.basis.proofs.buffer.copy.Goals as goal

pub returns : goal.returns
returns c =
    rw c.copy_from_slice.ensures.after (copied_over c.args.at _ c.args.bytes.now c.args.out.now (omega arith))
