-- Every refusal has a number above 0: 0 is the number of an answer that is not refused. Assumes nothing.
use Prim.Native.Nat.{◌<◌}
use native.Mathlib.Omega.{arith}
use mathlib.Core.Path.{◌≡◌}
use Rattle.refusals.specs.Numbers.{refusal_number}
use Rattle.refusals.specs.declared.Refusal.{Refusal}
use Rattle.refusals.specs.declared.Refusal.TheVariants.{WrongLength, WrongType, WrongAddressLength, EsiReserved, OtherSegment, AddressZero, ListLength, TableFull, NotPresent, TagReserved, ReadyTooLong, NoneEligible, EsiText, BufferShort, AlgorithmNotUsable, BadRecord, WaitOutOfRange, FlowLength, StepOutOfRange, RangesWrong, CandidatesWrong, EventUnknown}

pub refusal_above : (r : Refusal) → 0 < refusal_number r
refusal_above WrongLength = omega arith
refusal_above WrongType = omega arith
refusal_above WrongAddressLength = omega arith
refusal_above EsiReserved = omega arith
refusal_above OtherSegment = omega arith
refusal_above AddressZero = omega arith
refusal_above ListLength = omega arith
refusal_above TableFull = omega arith
refusal_above NotPresent = omega arith
refusal_above TagReserved = omega arith
refusal_above ReadyTooLong = omega arith
refusal_above NoneEligible = omega arith
refusal_above EsiText = omega arith
refusal_above BufferShort = omega arith
refusal_above AlgorithmNotUsable = omega arith
refusal_above BadRecord = omega arith
refusal_above WaitOutOfRange = omega arith
refusal_above FlowLength = omega arith
refusal_above StepOutOfRange = omega arith
refusal_above RangesWrong = omega arith
refusal_above CandidatesWrong = omega arith
refusal_above EventUnknown = omega arith

pub no-zero : (r : Refusal) → refusal_number r ≡ 0 → ⊥
no-zero r e = absurd (omega (arith, refusal_above r, e))
