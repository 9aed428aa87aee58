-- The third demand: one call, and from there any sequence of calls.
-- Assumes nothing.
use mathlib.Core.Bool.{Bool, cond}
use mathlib.Core.List.{List, [], ◌∷◌}
use mathlib.Core.Path.{◌≡◌, ◌∙◌, sym, refl, ap, ap₂}
use Prim.Native.Nat.{ℕ, ◌≤◌}
use borrow.Author.Tests.{le-leb}
use lib.Dec.{eqb}
use lib.ListN.{length, take}
use Rattle.basis.proofs.Verdicts.{refused_not_done}
use Rattle.basis.specs.Answer.{done, refused}
use Rattle.basis.specs.Check.{Rule, Verdict, answer, broken, clear, if_clear, place_of, verdict}
use Rattle.reader.proofs.Refusals.{acceptance_hands_out}
use Rattle.read_packet.specs.Packet.{captions_length, packet_checks}
use Rattle.reader.specs.Shown.{shown_by}
use Rattle.reader.specs.Reader.{buffer_after, captions_of, cleared, read}
use Rattle.theorem_altered.proofs.Acceptance.{accepted_too, captions_length_lem, captions_new, shown_too}
use Rattle.theorem_altered.specs.Alteration.{Altered, new_list}
use Rattle.theorem_altered.specs.Calls.{Shown, call_shown, captions_shown, packet_shown, run_calls}
use Rattle.theorem_altered.specs.Twins.{
  Allowed,
  Excepted,
  Twin,
  Twins,
  after,
  altered,
  calls,
  excepted_after,
  first_of,
  flushes,
  list_is,
  nothing,
  same,
  save_both,
  second_of,
  with_list,
}
use Rattle.reader.specs.declared.parser.CDPParser.{CDPParser}
use Rattle.basis.specs.declared.answer.Answer.{Answer}
use Rattle.values.specs.Layout.{caption_room}

-- what a verdict on a packet shows, with room for captions
abbrev pub given : Verdict → ℕ → CDPParser → CDPParser → List ℕ → Shown
given v length shown s captions =
    record {
      answer = answer v length;
      place = place_of v;
      parser = if_clear v shown (cleared s);
      captions = if_clear v captions [];
    }

out : (v : Verdict) (length : ℕ) (buffer captions : List ℕ) → (v ≡ clear → take length buffer ≡ captions)
    → captions_shown (answer v length) buffer ≡ if_clear v captions []
out clear length buffer captions h = h refl
out (broken rule) length buffer captions h = rw (refused_not_done rule.refusal)

module _ (s : CDPParser) (p lent : List ℕ) (room : caption_room ≤ length lent) where
  answered : (read s p (length lent)).answer ≡ answer (verdict (packet_checks p)) (captions_length p)
  unfolding read
  answered = simp (le-leb _ _ room)

  stands : (read s p (length lent)).place ≡ place_of (verdict (packet_checks p))
  unfolding read
  stands = simp (le-leb _ _ room)

  left : (read s p (length lent)).parser ≡ if_clear (verdict (packet_checks p)) (shown_by p) (cleared s)
  unfolding read
  left = simp (le-leb _ _ room)

  handed : verdict (packet_checks p) ≡ clear → take (captions_length p) (buffer_after p lent) ≡ captions_of p
  handed h =
      let accepted : (read s p (length lent)).answer ≡ done (captions_length p) =
      answered ∙ ap (λ (v : Verdict). answer v (captions_length p)) h in
      ap (λ (a : Answer). take a.first (buffer_after p lent)) (sym accepted)
      ∙ acceptance_hands_out s p lent (ap (λ (a : Answer). eqb a.number 0) accepted)

  pub reading_is : packet_shown s p lent ≡ given (verdict (packet_checks p)) (captions_length p) (shown_by p) s (captions_of p)
  reading_is =
      rw (answered, stands, left)
      (ap
      (λ (c : List ℕ). record {
        answer = answer (verdict (packet_checks p)) (captions_length p);
        place = place_of (verdict (packet_checks p));
        parser = if_clear (verdict (packet_checks p)) (shown_by p) (cleared s);
        captions = c;
      })
      (out (verdict (packet_checks p)) (captions_length p) (buffer_after p lent) (captions_of p) handed))

-- a refusal keeps the list that is excepted
pub cleared_with : (e : Excepted) (s : CDPParser) → cleared (with_list e s) ≡ with_list e (cleared s)
cleared_with nothing s = refl
cleared_with (list_is l) s = refl

abbrev refusing : Rule → CDPParser → Shown
refusing rule s = record { answer = refused rule.refusal; place = rule.at.place; parser = s; captions = [] }

stays : (v : Verdict) (length : ℕ) (shown s : CDPParser) (captions : List ℕ) (e : Excepted) (p lent lent' : List ℕ)
    → given v length shown (with_list e s) captions
    ≡ save_both (same p lent lent') (excepted_after (same p lent lent') (answer v length) e)
    (given v length shown s captions)
stays clear length shown s captions e p lent lent' = refl
stays (broken rule) length shown s captions e p lent lent' =
    ap (refusing rule) (cleared_with e s)
    ∙ ap (λ (accepted : Bool). refusing rule (with_list (cond accepted nothing e) (cleared s)))
    (sym (refused_not_done rule.refusal))

differs : (p q lent lent' : List ℕ) (a : Altered p q) (e : Excepted) (s : CDPParser)
    → given (verdict (packet_checks q)) (captions_length q) (shown_by q) (with_list e s) (captions_of q)
    ≡ save_both (altered p q lent lent') (list_is (new_list p q))
    (given (verdict (packet_checks p)) (captions_length p) (shown_by p) s (captions_of p))
differs p q lent lent' a e s =
    rw (accepted_too p q a, a.put.accepted, captions_length_lem p q a, shown_too p q a, captions_new p q a)

-- one call: what the second sequence shows
abbrev saved : Twin → Excepted → Shown → Shown
saved t e a = save_both t (excepted_after t a.answer e) a

step : (t : Twin) → Allowed Altered t → (e : Excepted) (s : CDPParser)
    → call_shown (with_list e s) (second_of t) ≡ saved t e (call_shown s (first_of t))
step flushes _ e s = refl
step (same p lent lent') room e s =
    reading_is (with_list e s) p lent' room.second
    ∙ stays (verdict (packet_checks p)) (captions_length p) (shown_by p) s (captions_of p) e p lent lent'
    ∙ ap (saved (same p lent lent') e) (sym (reading_is s p lent room.first))
step (altered p q lent lent') (room, a) e s =
    reading_is (with_list e s) q lent' room.second
    ∙ differs p q lent lent' a e s
    ∙ ap (saved (altered p q lent lent') e) (sym (reading_is s p lent room.first))

-- all calls, from any state and with any list excepted before the first of them
all_calls : (ts : List Twin) → Twins Altered ts → (e : Excepted) (s : CDPParser)
    → run_calls (with_list e s) (calls second_of ts) ≡ after save_both ts e (run_calls s (calls first_of ts))
all_calls [] _ e s = refl
all_calls (t ∷ ts) (h, hs) e s =
    let one = step t h e s in
    let first : Shown = call_shown s (first_of t) in
    ap₂ ◌∷◌ one
    (ap (λ (c : Shown). run_calls c.parser (calls second_of ts)) one
    ∙ all_calls ts hs (excepted_after t first.answer e) first.parser)

-- Both halves at once: other captions, other services, or both in one packet, in any of the accepted packets that end
-- with their footer. All answers and all that is shown stay the same, save the new captions and, until the next
-- accepted packet or flush, the new list.
pub both_halves : (s : CDPParser) (ts : List Twin) → Twins Altered ts
    → run_calls s (calls second_of ts) ≡ after save_both ts nothing (run_calls s (calls first_of ts))
both_halves s ts h = all_calls ts h nothing s
