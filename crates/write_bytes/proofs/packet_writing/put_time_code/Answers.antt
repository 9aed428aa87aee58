-- `write_bytes::packet_writing::put_time_code`: the id and the four bytes, or nothing.
-- Assumes nothing.
use mathlib.Core.Path.{◌∙◌}
use native.Mathlib.Omega.{arith}
use Rattle.write_bytes.proofs.Parts.{time_absent, time_put}
use Rattle.write_bytes.proofs.packet_writing.put_time_code.Goals as goal

pub returns-then-not-timed : goal.returns-then-not-timed
returns-then-not-timed c =
    let a = c.args in
    let p = time_absent a.at a.out.now a.timed a.time_code c.if-not-timed.true in
    record { value = p.0; out_after = p.1 }

pub returns : goal.returns
returns c =
    let a = c.args in
    let p = time_put a.at a.out.now a.timed a.time_code c.if-not-timed.false (omega arith) c.requires in
    record { value = p.0; out_after = c.put-2.ensures.out_after ∙ rw c.put.ensures.out_after p.1 }
