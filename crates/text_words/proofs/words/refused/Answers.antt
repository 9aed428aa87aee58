-- `text_words::refused`: that it is refused, and what is said of the test.
-- Assumes nothing.
use Rattle.text.proofs.Rooms.{behind}
use Rattle.text_words.proofs.words.refused.Goals as goal

pub returns : goal.returns
returns c =
    behind c.word-named.ensures c.words.ensures
