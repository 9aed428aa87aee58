-- `values::checksum::sum`: after so many turns the sum is that of as many first bytes, modulo 256.
-- Assumes nothing.
use Rattle.std.proofs.Common.{◌≡◌, ◌%◌, take}
use Rattle.values.specs.Checksum.{total}
use Rattle.values.proofs.checksum.sum.Given as goal

abbrev pub invariant-loop-byte : goal.invariant-loop-byte
invariant-loop-byte l = l.sum ≡ total (take l.byte-index l.bytes) % 256
