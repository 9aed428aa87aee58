-- `lists::entries`: the entries before the place are held, and those from there on are left.
-- Assumes nothing.
use Rattle.std.proofs.Common.{arith}
use Rattle.tape.proofs.ListReads.{entries_count, entries_full, entries_malformed, entries_next, entries_stopped}
use Rattle.tape.proofs.lists.entries.Goals as goal

pub returns-in_default : goal.returns-in_default
returns-in_default c =
    entries_stopped c.loop.invariant c.in_default.ensures

pub returns-in_err-word : goal.returns-in_err-word
returns-in_err-word c =
    rw c.from_residual.ensures
    (entries_malformed c.loop.invariant _ (omega arith) c.in-Some.ensures c.in_err-word.ensures)

pub counted-list-requires : goal.counted-list-requires
counted-list-requires c =
    omega (arith, entries_count c.loop.invariant)

pub loop-preserved : goal.loop-preserved
loop-preserved c =
    entries_next c.loop.invariant _ (omega arith) c.in-Some.ensures _ _ c.in_ok-word.ensures c.counted-list.ensures

pub returns : goal.returns
returns c =
    entries_full c.loop.invariant (omega arith)
