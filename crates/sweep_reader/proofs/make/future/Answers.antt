-- `sweep_reader::make::future`: its two bytes, then its content.
-- Assumes nothing.
use Rattle.text.proofs.Rooms.{behind}
use Rattle.sweep_reader.proofs.make.future.Goals as goal

pub returns : goal.returns
returns c =
    behind c.word-behind.ensures c.repeat.ensures
