-- `text_dump::list::field`: which field, the language and the end of the line.
-- Assumes nothing.
use Rattle.text.proofs.Rooms.{behind}
use Rattle.text_dump.proofs.list.field.Goals as goal

pub returns : goal.returns
returns c =
    let which = rw c.field_number.ensures at c.number-named.ensures in
    behind (behind which c.language_bytes-spoken.ensures) c.line.ensures
