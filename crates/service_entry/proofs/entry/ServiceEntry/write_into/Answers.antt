-- `service_entry::ServiceEntry::write_into`: value, room, then the six bytes.
-- Assumes nothing.
use mathlib.Core.Path.{◌≡◌, ◌∙◌, sym}
use mathlib.Core.Bool.{true}
use native.Mathlib.Omega.{arith}
use Rattle.service_entry.specs.EntryWriting.{writable}
use Rattle.service_entry.proofs.EntryWrites.{entry_unwritable, entry_no_room, entry_fits}
use Rattle.service_entry.proofs.entry.ServiceEntry.write_into.Goals as goal

pub returns-then-not-is_writable : goal.returns-then-not-is_writable
returns-then-not-is_writable c =
    let left = entry_unwritable c.args.self c.args.out.now (sym c.is_writable.ensures ∙ c.if-not-is_writable.true) in
    record { value = c.from.ensures ∙ left.0; out_after = left.1 }

pub returns-then-room-lt-BYTE_LEN : goal.returns-then-room-lt-BYTE_LEN
returns-then-room-lt-BYTE_LEN c =
    let can : writable c.args.self.service ≡ true = sym c.is_writable.ensures ∙ c.if-not-is_writable.false in
    let left = entry_no_room c.args.self c.args.out.now can (omega arith) in
    record { value = c.from-then-room-lt-BYTE_LEN.ensures ∙ left.0; out_after = left.1 }

pub returns : goal.returns
returns c =
    let can : writable c.args.self.service ≡ true = sym c.is_writable.ensures ∙ c.if-not-is_writable.false in
    let left = entry_fits c.args.self c.args.out.now can (omega arith) in
    record { value = c.done.ensures ∙ left.0; out_after = c.put_at.ensures ∙ left.1 }
