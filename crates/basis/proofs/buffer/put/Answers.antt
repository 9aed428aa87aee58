-- `basis::put`: where the bytes do not fit, the answer alone; else the copy.
-- Assumes nothing.
use Rattle.std.proofs.Common.{◌+◌, ◌<◌, ◌∙◌, arith, length}
use borrow.Author.Tests.{ltb-false, ltb-true}
use Rattle.basis.proofs.Puts.{fits_clear, short_refused}
use Rattle.basis.proofs.buffer.put.Goals as goal
use Rattle.basis.proofs.buffer.put.Goals.{
  then-room-needed-via-then-room-needed,
  then-room-needed-via-else-room-needed+then-room-needed-2,
}

-- too little room, by either test
short : (c : goal.After-answered) → length c.args.out.now < length c.args.bytes.now + c.args.at
short c =
    elim c.then-room-needed.branch [
      | then-room-needed-via-then-room-needed w ↦ omega arith
      | then-room-needed-via-else-room-needed+then-room-needed-2 w ↦ omega (arith, ltb-true)
    ]

pub returns-then-room-needed : goal.returns-then-room-needed
returns-then-room-needed c =
    let refused = short_refused c.args.at c.args.bytes.now c.args.out.now (omega (arith, short c)) in
    record { value = rw (c.answered.ensures, c.room_from.ensures) refused.0; out_after = refused.1 }

pub copy-requires : goal.copy-requires
copy-requires c = omega (arith, ltb-false)

pub returns : goal.returns
returns c =
    let fits = fits_clear c.args.at c.args.bytes.now c.args.out.now (omega (arith, ltb-false)) in
    record { value = c.done.ensures ∙ fits.0; out_after = c.copy.ensures ∙ fits.1 }
