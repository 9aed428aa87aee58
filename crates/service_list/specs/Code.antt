-- Follows the code and not the rules: the answer of a list's tests.
use Rattle.basis.specs.Check.{verdict, answer}
use Rattle.service_list.specs.declared.list.ServiceInfo.{ServiceInfo}
use Rattle.basis.specs.declared.answer.Answer.{Answer}
use Rattle.service_list.specs.SectionWriting.{value_checks}

unfoldable pub value_answer : ServiceInfo → Answer
value_answer l = answer (verdict (value_checks l)) 0
