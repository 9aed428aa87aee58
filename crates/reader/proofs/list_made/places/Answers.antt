-- `reader::list_made::places`: after k turns the first k places have what the first k entries hold.
-- Assumes nothing.
use mathlib.Core.Path.{◌∙◌, refl}
use lib.ListN.{length-set}
use native.Mathlib.Omega.{arith}
use Rattle.service_entries.proofs.SectionEntries.{first_all, first_more, first_none}
use Rattle.reader.proofs.list_made.places.Goals as goal

pub loop-k-init : goal.loop-k-init
loop-k-init c =
    rw c.fillers-services.ensures (omega arith, refl, first_none _ _ 0)

pub loop-k-preserved : goal.loop-k-preserved
loop-k-preserved c =
    let inv = c.loop-k.invariant in
    (omega arith, simp length-set inv.1, rw (inv.2, c.entry-entry.ensures) (first_more _ _ _ (omega arith)))

pub returns : goal.returns
returns c =
    c.loop-k.invariant.2 ∙ first_all _ _ _ c.args.count (omega arith)
