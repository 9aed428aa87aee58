-- `text_values::limits::size`: the size, and whether more will do.
-- Assumes nothing.
use mathlib.Core.Path.{◌∙◌, sym}
use Rattle.text.proofs.Rooms.{behind}
use Rattle.text_values.proofs.limits.size.Goals as goal

pub returns : goal.returns
returns c =
    rw (sym c.exact.ensures ∙ c.if-exact.false) (behind c.number-named.ensures c.word.ensures)
