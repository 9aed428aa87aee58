-- `text_why::lines::rule_line`: the rule's number and the end of the line.
-- Assumes nothing.
use Rattle.text.proofs.Rooms.{behind}
use Rattle.text_why.proofs.lines.rule_line.Goals as goal

pub returns : goal.returns
returns c =
    let numbered = rw c.reason_rule-rule.ensures at c.number-named.ensures in
    behind numbered c.line.ensures
