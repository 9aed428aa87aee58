-- `lists::entries`: the entries before the place are held, and those from there on are left.
-- Assumes nothing.
use Rattle.tape.proofs.ListReads.{EntriesRead}
use Rattle.tape.proofs.lists.entries.Given as goal

abbrev pub invariant-loop : goal.invariant-loop
invariant-loop l = EntriesRead l.line l.from l.start l.change l.complete l.list l.at l.counter
