-- What goes from line to line of a tape.
use Rattle.std.specs.Prelude.{Some}
use Rattle.reader.specs.Shown.{fresh_reader}
use Rattle.tape.specs.declared.operation.State.{State}

-- before the first line: nothing of it, a new reader
abbrev pub first_state : State
first_state = record { length = Some 0; parser = fresh_reader }
