-- `basis::byte_at`: the byte, or 0 past the end.
-- Assumes nothing.
use lib.ListN.{get_or-eq_default}
use mathlib.Core.Path.{sym}
use Rattle.basis.proofs.buffer.byte_at.Goals as goal

pub returns-else-at-bytes : goal.returns-else-at-bytes
returns-else-at-bytes c =
    sym (get_or-eq_default c.args.bytes.now 0 c.if-at-bytes.false)
