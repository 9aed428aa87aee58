-- Follows the code and not the rules: the setter's test by itself.
use Rattle.basis.specs.Check.{verdict, answer}
use Rattle.service_list.specs.declared.list.MaybeServiceInfo.{MaybeServiceInfo}
use Rattle.basis.specs.declared.answer.Answer.{Answer}
use Rattle.writer.specs.Writer.{set_checks}

unfoldable pub count_answer : MaybeServiceInfo → Answer
count_answer services = answer (verdict (set_checks services)) 0
