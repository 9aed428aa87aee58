-- `text::number`: the digits that the toolchain spells, behind the name.
-- Assumes nothing.
use Rattle.text.proofs.Decimals.{decimal_is}
use Rattle.text.proofs.digits.number.Goals as goal

pub returns : goal.returns
returns c =
    let spelled = c.decimal-count.ensures in
    rw (decimal_is c.args.n c.decimal-count.result _ c.ranges.n.fits spelled.len spelled.digits) at
    c.both.ensures
