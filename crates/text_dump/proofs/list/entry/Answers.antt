-- `text_dump::list::entry`: a field or a digital service.
-- Assumes nothing.
use Rattle.text_dump.specs.Lines.{entry_line}
use Rattle.text_dump.proofs.list.entry.Goals as goal

pub returns-in-Field : goal.returns-in-Field
unfolding entry_line
returns-in-Field c =
    rw c.in-Field.is c.field.ensures

pub returns-in-Service : goal.returns-in-Service
unfolding entry_line
returns-in-Service c =
    rw c.in-Service.is c.digital.ensures
