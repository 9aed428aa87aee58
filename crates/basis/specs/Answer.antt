-- The table of answers in docs/RULES.md: every number with the two values that go with it.
use Rattle.std.specs.Prelude.{ℕ}
use Rattle.basis.specs.declared.answer.Answer.{Answer}
use Rattle.basis.specs.declared.refusal.Refusal.{Refusal}
use Rattle.basis.specs.declared.refusal.Refusal.TheVariants.{
  LengthMismatch,
  WrongMagic,
  UnknownFramerate,
  InvalidFixedBits,
  ChecksumFailed,
  SequenceCountMismatch,
  ServiceNumberMismatch,
  InvalidServiceNumber,
  ServiceFlagsMismatched,
  WouldOverflow,
  BufferTooShort,
  NotWritable,
  WrongCaptionRun,
}

-- 0: done, with a length where the call has one to give, else with 0
abbrev pub done : ℕ → Answer
done length = record { number = 0; first = length; second = 0 }

-- an answer whose two values are 0
abbrev pub plain : ℕ → Answer
plain number = record { number = number; first = 0; second = 0 }

-- the number and the two values of each refusal
abbrev pub refused : Refusal → Answer
refused (LengthMismatch expected actual) = record { number = 1; first = expected; second = actual }
refused WrongMagic = plain 2
refused UnknownFramerate = plain 3
refused InvalidFixedBits = plain 4
refused ChecksumFailed = plain 5
refused SequenceCountMismatch = plain 6
refused ServiceNumberMismatch = plain 7
refused InvalidServiceNumber = plain 8
refused ServiceFlagsMismatched = plain 9
refused WouldOverflow = record { number = 10; first = 1; second = 0 }
refused (BufferTooShort needed given) = record { number = 11; first = needed; second = given }
refused NotWritable = plain 12
refused WrongCaptionRun = plain 13
