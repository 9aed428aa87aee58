-- `service_entries::entries::places`: after k turns the first k places have what the first k entries hold.
-- Assumes nothing.
use mathlib.Core.Path.{◌∙◌, refl, sym}
use lib.ListN.{length-set}
use native.Mathlib.Omega.{arith}
use Rattle.service_entries.proofs.SectionEntries.{entry_is, entry_right, first_all, first_more, first_none, section_long}
use Rattle.service_entries.specs.Entries.{count_of}
use Rattle.service_entries.proofs.entries.places.Goals as goal

pub bounds-data-1 : goal.bounds-data-1
bounds-data-1 c =
    omega (arith, section_long _ c.requires)

pub loop-k-init : goal.loop-k-init
loop-k-init c =
    rw c.fillers-services.ensures (omega arith, refl, first_none _ 2 0)

pub six_behind-requires : goal.six_behind-requires
six_behind-requires c =
    omega (arith, section_long _ c.requires)

pub unwrap-requires : goal.unwrap-requires
unwrap-requires c =
    rw (c.parse.ensures, c.six_behind.ensures, entry_right _ c.requires c.loop-k.k (omega arith)) refl

pub loop-k-preserved : goal.loop-k-preserved
loop-k-preserved c =
    let inv = c.loop-k.invariant in
    let read = rw c.six_behind.ensures at (sym c.parse.ensures ∙ c.unwrap.ensures) in
    (omega arith, simp length-set inv.1, rw (inv.2, entry_is _ _ read) (first_more _ _ _ (omega arith)))

pub returns : goal.returns
returns c =
    c.loop-k.invariant.2 ∙ first_all _ _ _ (count_of c.args.«data».now) (omega arith)
