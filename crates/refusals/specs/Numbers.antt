-- The number of a refusal, and of an answer that may be one (document 01, "Refusal numbers": "for an answer that is an enum, a definition gives this paper's number
-- and values for each case of the enum").
--   refusal_number r  == the number of the refusal r
--   number_of a       == the number of the answer a: 0 where it is not refused
--   number_at a       == the same where a refusal comes with an offset
--   offset_at a       == that offset: 0 where the answer is not refused
use Rattle.std.specs.Prelude.{ℕ, Result, Ok, Err}
use Rattle.refusals.specs.Refusals.{wrong_length, wrong_type, wrong_address_length, esi_reserved, other_segment, address_zero, list_length, table_full, not_present, tag_reserved, ready_too_long, none_eligible, esi_text, buffer_short, algorithm_not_usable, bad_record, wait_out_of_range, flow_length, step_out_of_range, ranges_wrong, candidates_wrong, event_unknown}
use Rattle.refusals.specs.declared.Refusal.{Refusal}
use Rattle.refusals.specs.declared.Refusal.TheVariants.{WrongLength, WrongType, WrongAddressLength, EsiReserved, OtherSegment, AddressZero, ListLength, TableFull, NotPresent, TagReserved, ReadyTooLong, NoneEligible, EsiText, BufferShort, AlgorithmNotUsable, BadRecord, WaitOutOfRange, FlowLength, StepOutOfRange, RangesWrong, CandidatesWrong, EventUnknown}
use Rattle.refusals.specs.declared.RefusalAt.{RefusalAt}

abbrev pub refusal_number : Refusal → ℕ
refusal_number WrongLength = wrong_length
refusal_number WrongType = wrong_type
refusal_number WrongAddressLength = wrong_address_length
refusal_number EsiReserved = esi_reserved
refusal_number OtherSegment = other_segment
refusal_number AddressZero = address_zero
refusal_number ListLength = list_length
refusal_number TableFull = table_full
refusal_number NotPresent = not_present
refusal_number TagReserved = tag_reserved
refusal_number ReadyTooLong = ready_too_long
refusal_number NoneEligible = none_eligible
refusal_number EsiText = esi_text
refusal_number BufferShort = buffer_short
refusal_number AlgorithmNotUsable = algorithm_not_usable
refusal_number BadRecord = bad_record
refusal_number WaitOutOfRange = wait_out_of_range
refusal_number FlowLength = flow_length
refusal_number StepOutOfRange = step_out_of_range
refusal_number RangesWrong = ranges_wrong
refusal_number CandidatesWrong = candidates_wrong
refusal_number EventUnknown = event_unknown

abbrev pub number_of : {A : Type 0} → Result A Refusal → ℕ
number_of (Ok a) = 0
number_of (Err r) = refusal_number r

abbrev pub number_at : {A : Type 0} → Result A RefusalAt → ℕ
number_at (Ok a) = 0
number_at (Err r) = refusal_number r.refusal

abbrev pub offset_at : {A : Type 0} → Result A RefusalAt → ℕ
offset_at (Ok a) = 0
offset_at (Err r) = r.offset
