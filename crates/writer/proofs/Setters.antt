-- Setting a list: what is answered, and what the writer holds then.
-- Assumes nothing.
use mathlib.Core.Path.{◌≡◌, sym, ap}
use mathlib.Core.Bool.{true, false}
use Prim.Native.Nat.{◌≤◌, ◌<◌}
use borrow.Author.Tests.{le-leb, lt-leb}
use lib.Dec.{eqb}
use Rattle.basis.proofs.Verdicts.{done_value, refused_shows}
use Rattle.basis.specs.Answer.{done, refused}
use Rattle.basis.specs.declared.refusal.Refusal.TheVariants.{WouldOverflow}
use Rattle.basis.specs.Check.{answer, verdict}
use Rattle.writer.specs.Writer.{holding, set_checks, set_service_info}
use Rattle.writer.specs.Code.{count_answer}
use Rattle.service_list.specs.declared.list.MaybeServiceInfo.{MaybeServiceInfo}
use Rattle.basis.specs.declared.answer.Answer.{Answer}
use Rattle.writer.specs.declared.writer.CDPWriter.{CDPWriter}
use Rattle.writer.specs.declared.writer.CDPWriterSet.{CDPWriterSet}

abbrev set : Answer → CDPWriter → CDPWriterSet
set a w = record { answer = a; writer = w }

module _ (services : MaybeServiceInfo) where
  pub no_list : services.present ≡ false → done 0 ≡ count_answer services
  unfolding count_answer
  no_list a = simp a

  module _ (there : services.present ≡ true) where
    pub count_over : 15 < services.service_info.count → refused WouldOverflow ≡ count_answer services
    unfolding count_answer
    count_over h = simp (there, lt-leb _ _ h)

    pub count_fine : services.service_info.count ≤ 15 → done 0 ≡ count_answer services
    unfolding count_answer
    count_fine h = simp (there, le-leb _ _ h)

module _ (w : CDPWriter) (services : MaybeServiceInfo) where
  pub not_set : eqb (count_answer services).number 0 ≡ false → set (count_answer services) w ≡ set_service_info w services
  unfolding count_answer set_service_info
  not_set h = refused_shows set (verdict (set_checks services)) 0 0 (holding w services) w h

  pub is_set : eqb (count_answer services).number 0 ≡ true
      → set (count_answer services) (holding w services) ≡ set_service_info w services
  unfolding count_answer set_service_info
  is_set h =
      ap (λ (x : CDPWriter). set (answer (verdict (set_checks services)) 0) x)
      (sym (done_value (verdict (set_checks services)) 0 (holding w services) w h))
