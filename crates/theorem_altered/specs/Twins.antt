-- Two sequences of calls side by side, and what the second shows: what the first does, save what the demand excepts.
use Rattle.std.specs.Prelude.{cond, List, [], ◌∷◌, ℕ, ◌≤◌, eqb, length}
use Rattle.reader.specs.Shown.{with_services}
use Rattle.theorem_altered.specs.Alteration.{new_captions, new_list}
use Rattle.theorem_altered.specs.Calls.{Call, Shown, flush, packet}
use Rattle.reader.specs.declared.parser.CDPParser.{CDPParser}
use Rattle.service_list.specs.declared.list.MaybeServiceInfo.{MaybeServiceInfo}
use Rattle.basis.specs.declared.answer.Answer.{Answer}
use Rattle.values.specs.Layout.{caption_room}

-- a call of the first sequence and the one that stands for it in the second
pub data Twin : Type 0 where
  flushes : Twin
  -- a packet that stays as it was, accepted or refused; the buffer lent for it in the first sequence, and in the second
  same : List ℕ → List ℕ → List ℕ → Twin
  -- a packet, what is put in its place, and the two buffers
  altered : List ℕ → List ℕ → List ℕ → List ℕ → Twin

abbrev pub first_of : Twin → Call
first_of flushes = flush
first_of (same p lent lent') = packet p lent
first_of (altered p q lent lent') = packet p lent

abbrev pub second_of : Twin → Call
second_of flushes = flush
second_of (same p lent lent') = packet p lent'
second_of (altered p q lent lent') = packet q lent'

abbrev pub calls : (Twin → Call) → List Twin → List Call
calls of [] = []
calls of (t ∷ ts) = of t ∷ calls of ts

-- both sequences lend each packet a caption buffer with room for the most captions
pub record Lent (lent lent' : List ℕ) : Type 0 where
  pub first : caption_room ≤ length lent
  pub second : caption_room ≤ length lent'

-- the two sequences that the demand speaks of, for one kind of alteration
abbrev pub Allowed : (List ℕ → List ℕ → Type 0) → Twin → Type 0
Allowed Kind flushes = Unit {0}
Allowed Kind (same p lent lent') = Lent lent lent'
Allowed Kind (altered p q lent lent') = Lent lent lent' × Kind p q

abbrev pub Twins : (List ℕ → List ℕ → Type 0) → List Twin → Type 0
Twins Kind [] = Unit {0}
Twins Kind (t ∷ ts) = Allowed Kind t × Twins Kind ts

-- what is excepted of the service list after a call: nothing, or this list is shown in place of the first sequence's
pub data Excepted : Type 0 where
  nothing : Excepted
  list_is : MaybeServiceInfo → Excepted

-- the new list, from the altered packet's call until the next accepted packet or flush
abbrev pub excepted_after : Twin → Answer → Excepted → Excepted
excepted_after flushes a e = nothing
excepted_after (same p lent lent') a e = cond (eqb a.number 0) nothing e
excepted_after (altered p q lent lent') a e = list_is (new_list p q)

abbrev pub with_list : Excepted → CDPParser → CDPParser
with_list nothing s = s
with_list (list_is l) s = with_services l s

-- the altered packets' captions, which are the new ones
abbrev pub with_captions : Twin → List ℕ → List ℕ
with_captions flushes captions = captions
with_captions (same p lent lent') captions = captions
with_captions (altered p q lent lent') captions = new_captions p q

-- what one call shows: the same, save list and captions
abbrev pub save_both : Twin → Excepted → Shown → Shown
save_both t e a = record { answer = a.answer; place = a.place; parser = with_list e a.parser; captions = with_captions t a.captions }

-- save captions alone; save the list alone
abbrev pub save_captions : Twin → Excepted → Shown → Shown
save_captions t e a = record { answer = a.answer; place = a.place; parser = a.parser; captions = with_captions t a.captions }

abbrev pub save_list : Twin → Excepted → Shown → Shown
save_list t e a = record { answer = a.answer; place = a.place; parser = with_list e a.parser; captions = a.captions }

-- what the second sequence shows, call by call, made of what the first one shows
abbrev pub after : (Twin → Excepted → Shown → Shown) → List Twin → Excepted → List Shown → List Shown
after save [] e shown = []
after save (t ∷ ts) e [] = []
after save (t ∷ ts) e (a ∷ shown) =
    save t (excepted_after t a.answer e) a ∷ after save ts (excepted_after t a.answer e) shown
