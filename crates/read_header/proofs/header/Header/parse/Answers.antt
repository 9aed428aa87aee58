-- `read_header::Header::parse` is rules 2 and 3, and then the values of rules 3 and 4.
-- Assumes nothing.
use mathlib.Core.Path.{◌∙◌, sym}
use native.Mathlib.Omega.{arith}
use Rattle.read_header.proofs.HeaderReads.{other_first, other_second, other_size, no_rate, header_whole}
use Rattle.read_header.proofs.header.Header.parse.Goals as goal

pub returns-then-packet : goal.returns-then-packet
returns-then-packet c =
    rw c.at-then-packet.ensures (other_first _ (omega arith) (λ h. omega arith))

pub returns-then-packet-ne105 : goal.returns-then-packet-ne105
returns-then-packet-ne105 c =
    rw c.at-then-packet-ne105.ensures (other_second _ (omega arith) (omega arith) (λ h. omega arith))

pub returns-then-said-size : goal.returns-then-said-size
returns-then-said-size c =
    rw c.at-then-said-size.ensures
    (other_size _ (omega arith) (omega arith) (omega arith) (λ h. omega arith))

pub returns-in_default : goal.returns-in_default
returns-in_default c =
    rw c.at-in_default.ensures
    (no_rate _ (omega arith) (omega arith) (omega arith) (omega arith) (sym c.from_id.ensures ∙ c.in_default.is))

pub returns : goal.returns
returns c =
    rw (c.from.ensures, c.sequence_count.ensures)
    (header_whole _ (omega arith) (omega arith) (omega arith) (omega arith) c.in-Some.framerate (sym c.from_id.ensures ∙ c.in-Some.is))
