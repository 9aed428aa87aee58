-- `why::print`: what is handed on is the text of the input.
-- Assumes nothing.
use mathlib.Core.Path.{sym}
use Rattle.text_why.proofs.WhyPrinted.{printed, printed_size, printed_within}
use Rattle.why.proofs.print.Goals as goal

pub slice_bounds-hand_on-end : goal.slice_bounds-hand_on-end
slice_bounds-hand_on-end g c =
    printed_within _ _ _ _ c.requires c.write_into-answer.ensures.value c.write_into-answer.ensures.out_after

pub slice_bounds-hand_on-end-2 : goal.slice_bounds-hand_on-end-2
slice_bounds-hand_on-end-2 g c =
    sym
    (printed_size _ _ _ _ c.requires c.write_into-answer.ensures.value c.write_into-answer.ensures.out_after)

pub hand_on-requires : goal.hand_on-requires
hand_on-requires g c =
    printed _ _ _ _ c.requires c.write_into-answer.ensures.value c.write_into-answer.ensures.out_after
