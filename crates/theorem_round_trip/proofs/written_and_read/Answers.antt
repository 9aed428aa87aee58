-- `theorem_round_trip::written_and_read` meets its contract. That the languages of the writer's list have three bytes is what
-- owning the parameter tells: a value of the type is one with arrays of the lengths that the type has.
-- Assumes nothing.
use Rattle.std.proofs.Common.{◌∙◌, sym}
use lib.Seq.{length-take-le}
use Rattle.theorem_round_trip.proofs.Backs.{fits, reread, unread}
use Rattle.theorem_round_trip.proofs.Languages.{languages}
use Rattle.theorem_round_trip.proofs.written_and_read.Goals as goal

pub returns-then-not-is_done : goal.returns-then-not-is_done
returns-then-not-is_done c =
    unread c.args.writer c.args.framerate c.args.captions.now c.args.out.now c.args.parser c.args.lent.now
    c.write-written.result c.write-written.new.out c.write-written.ensures.value c.write-written.ensures.out_after
    (sym c.is_done.ensures ∙ c.if-not-is_done.true)

pub slice_bounds-parse-end : goal.slice_bounds-parse-end
slice_bounds-parse-end c =
    fits c.args.writer c.args.framerate c.args.captions.now c.args.out.now c.args.parser c.args.lent.now
    c.write-written.result c.write-written.new.out c.write-written.ensures.value c.write-written.ensures.out_after
    (sym c.is_done.ensures ∙ c.if-not-is_done.false)

pub slice_bounds-parse-end-2 : goal.slice_bounds-parse-end-2
slice_bounds-parse-end-2 c = sym (length-take-le _ _ (slice_bounds-parse-end c))

pub returns : goal.returns
returns c =
    reread c.args.writer c.args.framerate c.args.captions.now c.args.out.now c.args.parser c.args.lent.now
    c.write-written.result c.write-written.new.out c.write-written.ensures.value c.write-written.ensures.out_after
    (sym c.is_done.ensures ∙ c.if-not-is_done.false)
    (languages c.args.writer _ c.well_formed.0)
    c.parse.result c.parse.new.captions c.parse.ensures.value c.parse.ensures.captions_after
