-- `service_entry::ServiceEntry::put_at`: six stores, and so the six bytes over what stood there.
-- Assumes nothing.
use native.Mathlib.Omega.{arith}
use Rattle.service_entry.proofs.EntryWrites.{six_stored}
use Rattle.service_entry.proofs.entry.ServiceEntry.put_at.Goals as goal

pub returns : goal.returns
returns c =
    rw (c.kind_byte.ensures, c.flags_byte.ensures) (six_stored _ _ _ _ _ _ _ _ (omega arith))
