-- What is known of a packet that was tested, and the test found, are its explanation.
-- Assumes nothing.
use mathlib.Core.Bool.{true}
use mathlib.Core.List.{List}
use mathlib.Core.Path.{◌≡◌, ◌∙◌, sym, refl, ap}
use Prim.Native.Nat.{ℕ, ◌≤◌}
use lib.ListN.{length}
use Rattle.std.specs.Prelude.{Result, Ok, Err}
use Rattle.basis.proofs.Holds.{held, place_most}
use Rattle.basis.proofs.Readings.{place_read}
use Rattle.basis.specs.Answer.{done, refused}
use Rattle.basis.specs.Check.{Verdict, answer, broken, clear, place_of, read_as, read_place, verdict}
use Rattle.basis.specs.declared.answer.Answer.{Answer}
use Rattle.basis.specs.declared.refusal.Refused.{Refused}
use Rattle.basis.specs.declared.test.Test.{Test}
use Rattle.read_packet.proofs.Answers.{packet_inside}
use Rattle.read_packet.specs.Code.{checked_read, checked_shown}
use Rattle.read_packet.specs.Packet.{captions_length, packet_checks}
use Rattle.read_packet.specs.declared.checked.Checked.{Checked}
use Rattle.explain_find.proofs.Leaves.{Found}
use Rattle.explain_find.proofs.TestsFound.{test_found}
use Rattle.explain_find.specs.Code.{test_from}
use Rattle.explain.specs.Why.{reason_for, reason_of, why_of}
use Rattle.explain.specs.declared.why.Reason.{Reason}
use Rattle.explain.specs.declared.why.Reason.TheVariants.{Accepted}
use Rattle.explain.specs.declared.why.Why.{Why}

abbrev why : Answer → ℕ → Reason → Why
why a place reason = record { answer = a; place = place; reason = reason }

module _ (p : List ℕ) where
  -- of a refusal, the test that its number leaves, and what that takes
  abbrev told_of : Refused → Why
  told_of r =
      let a : Answer = refused r.refusal in
      why a r.place (reason_for p (test_from p a.number r.place) r.place a.first)

  -- what the code makes of what testing gives, and the explanation of a verdict
  abbrev made_of : Result Checked Refused → Why
  made_of (Ok checked) = why (done checked.captions) 0 Accepted
  made_of (Err r) = told_of r

  abbrev told : Verdict → Why
  told v = why (answer v (captions_length p)) (place_of v) (reason_of p v)

  told_so : (v : Verdict) → held (Found p) v → made_of (read_as v (checked_shown p)) ≡ told v
  told_so clear found = refl
  told_so (broken rule) found =
      let a : Answer = refused rule.refusal in
      ap (λ (test : Test). why a rule.at.place (reason_for p test rule.at.place a.first)) found

  explained : made_of (checked_read p) ≡ why_of p
  unfolding checked_read why_of
  explained = told_so (verdict (packet_checks p)) (test_found p).it

  pub accepted_told : (checked : Checked) → checked_read p ≡ Ok checked → why (done checked.captions) 0 Accepted ≡ why_of p
  accepted_told checked h = ap made_of (sym h) ∙ explained

  pub refused_told : (r : Refused) → checked_read p ≡ Err r → told_of r ≡ why_of p
  refused_told r h = ap made_of (sym h) ∙ explained

  pub place_inside : read_place (checked_read p) ≤ length p
  unfolding checked_read
  place_inside =
      rw (place_read (verdict (packet_checks p)) (checked_shown p))
      (place_most true (length p) (verdict (packet_checks p)) (packet_inside p).it)

  pub refused_inside : (r : Refused) → checked_read p ≡ Err r → r.place ≤ length p
  refused_inside r h = rw h at place_inside
