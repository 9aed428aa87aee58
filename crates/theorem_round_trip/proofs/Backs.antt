-- What each way through the function comes to: the writer refuses, or what was written is read.
-- Assumes nothing.
use mathlib.Core.Bool.{true, false, true≢false}
use mathlib.Core.List.{List}
use mathlib.Core.Path.{◌≡◌, ◌∙◌, refl, sym, ap}
use Prim.Native.Nat.{ℕ, ◌≤◌}
use lib.Dec.{eqb}
use lib.ListN.{length, take}
use Rattle.reader.specs.Reader.{buffer_after, read}
use Rattle.theorem_packet.proofs.RoundTrip.{field_two_answered_7, round_trip, written_fits}
use Rattle.theorem_packet.specs.RoundTrip.{Languages, written_packet}
use Rattle.writer.specs.Writer.{held_written}
use Rattle.theorem_round_trip.specs.Back.{WrittenAndRead}
use Rattle.basis.specs.declared.answer.Answer.{Answer}
use Rattle.basis.specs.Writing.{Written}
use Rattle.reader.specs.declared.parser.CDPParser.{CDPParser}
use Rattle.reader.specs.declared.parser.CDPParserRead.{CDPParserRead}
use Rattle.values.specs.declared.framerate.Framerate.{Framerate}
use Rattle.writer.specs.declared.writer.CDPWriter.{CDPWriter}

module _ (w : CDPWriter) (rate : Framerate) (captions buffer : List ℕ) (s : CDPParser) (lent : List ℕ) where
  abbrev out : Written
  out = held_written w rate captions buffer

  -- what the writer answered and left
  module _ (a : Answer) (left : List ℕ) (answered : a ≡ out.answer) (leaves : left ≡ out.buffer) where
    pub unread : eqb a.number 0 ≡ false
        → WrittenAndRead w rate captions buffer s lent (record { answer = a; place = 0; parser = s }) left lent
    unread undone =
        let so : eqb out.answer.number 0 ≡ false = ap (λ (b : Answer). eqb b.number 0) (sym answered) ∙ undone in
        record {
          left = leaves;
          unwritten = λ _. (ap (λ (b : Answer). record { answer = b; place = 0; parser = s }) answered, refl);
          back = λ done_so. absurd (true≢false (sym done_so ∙ so));
          at_field_two = λ done_so. absurd (true≢false (sym done_so ∙ so));
        }

    module _ (done_so : eqb a.number 0 ≡ true) where
      so : eqb out.answer.number 0 ≡ true
      so = ap (λ (b : Answer). eqb b.number 0) (sym answered) ∙ done_so

      pub fits : a.first ≤ length left
      fits = rw (answered, leaves) (written_fits w rate captions buffer so)

      pub reread : Languages w → (got : CDPParserRead) (after : List ℕ)
          → got ≡ read s (take a.first left) (length lent)
          → after ≡ buffer_after (take a.first left) lent
          → WrittenAndRead w rate captions buffer s lent got left after
      reread three got after gives hands =
          let whole : take a.first left ≡ written_packet w rate captions buffer = rw (answered, leaves) in
          rw (gives, hands, whole)
          (record {
            left = leaves;
            unwritten = λ undone. absurd (true≢false (sym so ∙ undone));
            back = λ _ room. round_trip w rate captions buffer so s lent room three;
            at_field_two = λ _ room. field_two_answered_7 w rate captions buffer so s lent room;
          })
