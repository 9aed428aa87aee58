-- `write_bytes::packet_writing::put_captions`: two bytes, and the captions behind them.
-- Assumes nothing.
use mathlib.Core.Path.{◌∙◌}
use Rattle.write_bytes.proofs.Parts.{captions_put_lem}
use Rattle.write_bytes.proofs.packet_writing.put_captions.Goals as goal

pub returns : goal.returns
returns c =
    c.put-2.ensures.out_after ∙ rw c.put.ensures.out_after (captions_put_lem c.args.at _ _ c.requires.captions_in_bounds)
