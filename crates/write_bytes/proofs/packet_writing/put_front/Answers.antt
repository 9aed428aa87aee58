-- `write_bytes::packet_writing::put_front`: header, time code and captions, one behind the other.
-- Assumes nothing.
use native.Mathlib.Omega.{arith}
use Rattle.write_bytes.proofs.Parts.{lead_put}
use Rattle.write_bytes.proofs.packet_writing.put_front.Goals as goal

pub returns : goal.returns
returns c =
    let time = c.put_time_code-captions_at.ensures in
    lead_put _ _ c.args.captions.now c.args.out.now _ _ _ c.args.timed _ (omega arith) (omega arith) (omega arith)
    c.put.ensures.out_after (time.value, time.out_after) c.put_captions.ensures
