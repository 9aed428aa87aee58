-- `text::room::both`: one run, and another behind it.
-- Assumes nothing.
use Rattle.text.proofs.Rooms.{behind}
use Rattle.text.proofs.room.both.Goals as goal

pub returns : goal.returns
returns c =
    behind c.word-between.ensures c.word.ensures
