-- `write_bytes::write_packet`: the tests of the other parts, the services, then the parts around them.
-- Assumes nothing.
use mathlib.Core.List.{List, [], ◌∷◌, ◌++◌}
use mathlib.Core.Path.{◌≡◌, ◌∙◌, sym, ap, ap₂}
use mathlib.Core.Bool.{true, cond}
use Prim.Native.Nat.{ℕ}
use native.Mathlib.Omega.{arith}
use lib.Dec.{eqb}
use lib.ListN.{length}
use Rattle.basis.specs.Bytes.{over}
use Rattle.values.specs.Layout.{time_code_id}
use Rattle.service_list.specs.ServiceList.{list_absent}
use Rattle.write_checks.proofs.Tests.{known_id, others_right}
use Rattle.write_checks.specs.Checks.{packet_length}
use Rattle.write_checks.specs.Code.{held_time_bytes, others_write_tested}
use Rattle.write_bytes.proofs.Parts.{packet_put, times_are}
use Rattle.write_bytes.proofs.PacketWrites.{Passed, all_passed, others_few, others_refused, services_refused}
use Rattle.write_bytes.specs.Code.{services_put}
use Rattle.write_bytes.specs.PacketWriting.{captions_bytes, header_bytes}
use Rattle.basis.specs.declared.answer.Answer.{Answer}
use Rattle.values.specs.declared.flags.Flags.{Flags}
use Rattle.values.specs.declared.framerate.Framerate.{Framerate}
use Rattle.values_time.specs.declared.time.MaybeTimeCode.{MaybeTimeCode}
use Rattle.service_list.specs.declared.list.MaybeServiceInfo.{MaybeServiceInfo}
use Rattle.write_checks.specs.declared.checks.WriteTested.{WriteTested}
use Rattle.write_bytes.proofs.packet_writing.write_packet.Goals as goal

-- what putting the services has given, beside what the test of the other parts has shown
served : (services : MaybeServiceInfo) (n others : ℕ) (buffer out : List ℕ) (a : Answer) → n ≡ others
    → a ≡ (services_put services n buffer).answer → out ≡ (services_put services n buffer).buffer
    → (a ≡ (services_put services others buffer).answer) × (out ≡ (services_put services others buffer).buffer)
served services n others buffer out a e answers leaves = (
  answers ∙ ap (λ (m : ℕ). (services_put services m buffer).answer) e,
  leaves ∙ ap (λ (m : ℕ). (services_put services m buffer).buffer) e,
)

-- what holds where the services are put
record Put (rate : Framerate) (sequence : ℕ) (time : MaybeTimeCode) (services : MaybeServiceInfo)
    (captions buffer out : List ℕ) (t : WriteTested) (a : Answer) : Type 0 where
  passed : Passed rate sequence time services captions buffer
  answers : a ≡ (services_put services (packet_length time list_absent (length captions)) buffer).answer
  leaves : out ≡ (services_put services (packet_length time list_absent (length captions)) buffer).buffer
  bytes : t.time_code ≡ held_time_bytes time
  long : a.first ≡ packet_length time services (length captions)

all_put : (rate : Framerate) (sequence : ℕ) (time : MaybeTimeCode) (services : MaybeServiceInfo)
    (captions buffer out : List ℕ) (t : WriteTested) (a : Answer)
    → t ≡ others_write_tested rate time (length captions) → eqb t.answer.number 0 ≡ true
    → a ≡ (services_put services t.length buffer).answer → out ≡ (services_put services t.length buffer).buffer
    → eqb a.number 0 ≡ true
    → Put rate sequence time services captions buffer out t a
all_put rate sequence time services captions buffer out t a tested others_done answers leaves put_done =
    let right = others_right rate time (length captions) t tested others_done in
    let given = served services t.length (packet_length time list_absent (length captions)) buffer out a right.1 answers leaves in
    let p = all_passed rate sequence time services captions buffer right.0 (rw given.0 at put_done) in
    record {
      passed = p;
      answers = given.0;
      leaves = given.1;
      bytes = right.2;
      long = ap (λ (x : Answer). x.first) (given.0 ∙ p.size);
    }

pub returns-then-not-is_done : goal.returns-then-not-is_done
returns-then-not-is_done c =
    let a = c.args in
    let e = c.others_writable-others.ensures in
    let left =
    others_refused a.framerate a.sequence a.time_code a.service_info a.captions.now a.out.now
    (rw e at (sym c.is_done.ensures ∙ c.if-not-is_done.true))
    in
    record { value = rw e left.0; out_after = left.1 }

pub put_services-answer-requires : goal.put_services-answer-requires
put_services-answer-requires c =
    let a = c.args in
    let right = others_right _ _ _ _ c.others_writable-others.ensures (sym c.is_done.ensures ∙ c.if-not-is_done.false) in
    let few = others_few a.framerate a.time_code (length a.captions.now) right.0 in
    record {
      footer_size_le_others = omega (arith, few.0, right.1);
      others_bound = omega (arith, few.1, right.1);
    }

pub returns-then-not-is_done-2 : goal.returns-then-not-is_done-2
returns-then-not-is_done-2 c =
    let a = c.args in
    let put = c.put_services-answer.ensures in
    let right = others_right _ _ _ _ c.others_writable-others.ensures (sym c.is_done.ensures ∙ c.if-not-is_done.false) in
    let e = served a.service_info _ _ a.out.now _ _ right.1 put.value put.out_after in
    let nothing =
    services_refused a.framerate a.sequence a.time_code a.service_info a.captions.now a.out.now right.0
    (rw e.0 at (sym c.is_done-2.ensures ∙ c.if-not-is_done-2.true))
    in
    record { value = e.0 ∙ nothing.0; out_after = e.1 ∙ nothing.1 }

pub header_bytes-header-requires : goal.header_bytes-header-requires
header_bytes-header-requires c =
    let a = c.args in
    let s =
    all_put a.framerate a.sequence a.time_code a.service_info a.captions.now a.out.now _ _ _
    c.others_writable-others.ensures
    (sym c.is_done.ensures ∙ c.if-not-is_done.false)
    c.put_services-answer.ensures.value
    c.put_services-answer.ensures.out_after
    (sym c.is_done-2.ensures ∙ c.if-not-is_done-2.false)
    in
    record { size_bound = omega (arith, s.long, s.passed.short); id_bound = known_id _ s.passed.tested.rated }

pub put_front-requires : goal.put_front-requires
put_front-requires c =
    let a = c.args in
    let s =
    all_put a.framerate a.sequence a.time_code a.service_info a.captions.now a.out.now _ _ _
    c.others_writable-others.ensures
    (sym c.is_done.ensures ∙ c.if-not-is_done.false)
    c.put_services-answer.ensures.value
    c.put_services-answer.ensures.out_after
    (sym c.is_done-2.ensures ∙ c.if-not-is_done-2.false)
    in
    record {
      captions_len_bound = s.passed.tested.short;
      captions_in_bounds = omega (arith, s.passed.room, c.put_services-answer.auto.out);
    }

pub overflow_sub-size : goal.overflow_sub-size
overflow_sub-size c =
    let a = c.args in
    let s =
    all_put a.framerate a.sequence a.time_code a.service_info a.captions.now a.out.now _ _ _
    c.others_writable-others.ensures
    (sym c.is_done.ensures ∙ c.if-not-is_done.false)
    c.put_services-answer.ensures.value
    c.put_services-answer.ensures.out_after
    (sym c.is_done-2.ensures ∙ c.if-not-is_done-2.false)
    in
    omega (arith, s.long)

pub put_footer-requires : goal.put_footer-requires
put_footer-requires c =
    let a = c.args in
    let s =
    all_put a.framerate a.sequence a.time_code a.service_info a.captions.now a.out.now _ _ _
    c.others_writable-others.ensures
    (sym c.is_done.ensures ∙ c.if-not-is_done.false)
    c.put_services-answer.ensures.value
    c.put_services-answer.ensures.out_after
    (sym c.is_done-2.ensures ∙ c.if-not-is_done-2.false)
    in
    omega (arith, s.long, s.passed.room, c.put_front.auto.out, c.put_services-answer.auto.out)

pub returns : goal.returns
returns c =
    let a = c.args in
    let s =
    all_put a.framerate a.sequence a.time_code a.service_info a.captions.now a.out.now _ _ _
    c.others_writable-others.ensures
    (sym c.is_done.ensures ∙ c.if-not-is_done.false)
    c.put_services-answer.ensures.value
    c.put_services-answer.ensures.out_after
    (sym c.is_done-2.ensures ∙ c.if-not-is_done-2.false)
    in
    let header =
    c.header_bytes-header.ensures
    ∙ ap₂ (λ (n : ℕ) (f : Flags). header_bytes n a.framerate f a.sequence) s.long c.flags.ensures
    in
    let times =
    ap (λ (b : List ℕ). cond a.time_code.present (time_code_id ∷ b) []) s.bytes ∙ times_are a.time_code
    in
    let put =
    packet_put a.framerate a.sequence a.time_code a.service_info a.captions.now a.out.now _ _ _ s.passed.room
    (s.leaves ∙ s.passed.section)
    (c.put_front.ensures
    ∙ ap₂ (λ (h t : List ℕ). over 0 (h ++ t ++ captions_bytes a.captions.now) c.put_services-answer.new.out) header times)
    (rw s.long at c.put_footer.ensures)
    in
    record { value = s.answers ∙ s.passed.size ∙ s.passed.leaves.0; out_after = put ∙ s.passed.leaves.1 }
