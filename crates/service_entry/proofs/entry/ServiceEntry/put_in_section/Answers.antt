-- `service_entry::ServiceEntry::put_in_section`: the header byte, and the six bytes behind it.
-- Assumes nothing.
use mathlib.Core.Path.{◌∙◌}
use Rattle.service_entry.proofs.EntryWrites.{header_first}
use Rattle.service_entry.proofs.entry.ServiceEntry.put_in_section.Goals as goal

pub returns : goal.returns
returns c =
    c.put_at.ensures ∙ rw c.header_byte.ensures (header_first c.args.self c.args.at c.args.out.now c.requires.at_in_bounds)
