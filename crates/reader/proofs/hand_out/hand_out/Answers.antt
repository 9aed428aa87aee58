-- `reader::hand_out::hand_out`: nothing, or two bytes and the captions behind them.
-- Assumes nothing.
use mathlib.Core.Path.{◌∙◌}
use native.Mathlib.Omega.{arith}
use Rattle.reader.proofs.Handing.{all_out, nothing_out}
use Rattle.reader.proofs.hand_out.hand_out.Goals as goal

pub returns-then-not-present : goal.returns-then-not-present
returns-then-not-present c =
    let s = c.args in
    nothing_out s.packet.now s.at s.captions.now s.present c.if-not-present.true

pub returns : goal.returns
returns c =
    let s = c.args in
    let there = c.if-not-present.false in
    let room = c.requires.at_in_bounds there in
    c.put-2.ensures.out_after
    ∙ rw c.put.ensures.out_after
    (all_out s.packet.now s.at s.captions.now s.present there (omega (arith, room)) (omega arith))
