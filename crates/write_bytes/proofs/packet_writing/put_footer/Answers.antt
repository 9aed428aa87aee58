-- `write_bytes::packet_writing::put_footer`: the id and the sequence, and the checksum of all before it.
-- Assumes nothing.
use mathlib.Core.Path.{◌∙◌}
use Rattle.write_bytes.proofs.Parts.{footer_put}
use Rattle.write_bytes.proofs.packet_writing.put_footer.Goals as goal

pub returns : goal.returns
returns c =
    let p = c.put.ensures.out_after in
    let e = c.sequence_bytes-count.ensures in
    c.put-2.ensures.out_after
    ∙ rw (p, e) (footer_put c.args.at c.args.out.now c.args.sequence c.requires _
    (rw (p, e) at c.checksum_byte.ensures))
