-- `text_dump::list::services`: the flags and a line for each entry, or that there is no list.
-- Assumes nothing.
use mathlib.Core.Bool.{false, true}
use mathlib.Core.Path.{◌≡◌}
use native.Mathlib.Omega.{arith}
use lib.ListN.{length, length-take, take}
use Rattle.text.proofs.Rooms.{behind}
use borrow.Author.Tests.{not-false, not-true}
use Rattle.text_dump.proofs.Places.{first_places}
use Rattle.text_dump.specs.Lines.{service_lines}
use Rattle.service_list.specs.declared.list.ServiceInfo.{ServiceInfo}
use Rattle.text_dump.proofs.list.services.Goals as goal

pub returns-then-not-shown : goal.returns-then-not-shown
unfolding service_lines
returns-then-not-shown c =
    let none : c.args.shown.present ≡ false = not-true _ c.if-not-shown.true in
    rw none c.line.ensures

pub returns : goal.returns
unfolding service_lines
returns c =
    let there : c.args.shown.present ≡ true = not-false _ c.if-not-shown.false in
    let listed : ServiceInfo = c.args.shown.service_info in
    let all : length (take listed.count listed.services) ≡ listed.count =
    omega (arith, length-take listed.count listed.services) in
    let lines = rw (all, first_places listed.services listed.count listed.count (omega arith)) at c.entries.ensures in
    rw there (behind c.head-headed.ensures lines)
