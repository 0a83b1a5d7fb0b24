-- What an address is printed as, said of the words and the octets that are at hand, and the line of an answer, by its cases. Assumes nothing.
use Prim.Native.Nat.{ℕ}
use native.Mathlib.Omega.{arith}
use mathlib.Core.Path.{◌≡◌, refl, sym}
use mathlib.Core.List.{List, [], ◌∷◌}
use lib.ListN.{length, get_or}
use Rattle.std.specs.Prelude.{Ok, Err}
use Rattle.octets.specs.Octets.{octets_of}
use Rattle.address.specs.Address.{octets_in}
use Rattle.lines.specs.Lines.{dotted, hex}
use Rattle.refusals.specs.Numbers.{refusal_number}
use Rattle.refusals.specs.declared.Refusal.{Refusal}
use Rattle.refusals.specs.declared.Refusal.TheVariants.{WrongLength, WrongType, WrongAddressLength, EsiReserved, OtherSegment, AddressZero, ListLength, TableFull, NotPresent, TagReserved, ReadyTooLong, NoneEligible, EsiText, BufferShort, AlgorithmNotUsable, BadRecord, WaitOutOfRange, FlowLength, StepOutOfRange, RangesWrong, CandidatesWrong, EventUnknown}
use Rattle.answers.specs.Answers.{answer_of}
use Rattle.answers.specs.declared.Elected.{Elected}
use Rattle.answer_lines.specs.AnswerLines.{address_text, line, elected_line, query_line}
use Rattle.answer_lines.proofs.Laws.{text-six, text-four, query-refused, query-accepted}

module _ (f : ℕ) (a : List ℕ) where
  pub text_hex : f ≡ 6 → length a ≡ 4 → address_text f a ≡ hex (octets_in (get_or a 0 0 ∷ get_or a 1 0 ∷ get_or a 2 0 ∷ get_or a 3 0 ∷ []))
  text_hex e n = sym (text-six f a _ e n refl)

  abbrev o : List ℕ
  o = octets_of 4 (get_or a 0 0)

  pub text_dotted : (f ≡ 6 → ⊥) → address_text f a ≡ dotted (get_or o 0 0 ∷ get_or o 1 0 ∷ get_or o 2 0 ∷ get_or o 3 0 ∷ [])
  text_dotted n = sym (text-four f a o n refl)

-- no refusal has the number 0
refused : (r : Refusal) → refusal_number r ≡ 0 → ⊥
refused WrongLength h = omega (arith, h)
refused WrongType h = omega (arith, h)
refused WrongAddressLength h = omega (arith, h)
refused EsiReserved h = omega (arith, h)
refused OtherSegment h = omega (arith, h)
refused AddressZero h = omega (arith, h)
refused ListLength h = omega (arith, h)
refused TableFull h = omega (arith, h)
refused NotPresent h = omega (arith, h)
refused TagReserved h = omega (arith, h)
refused ReadyTooLong h = omega (arith, h)
refused NoneEligible h = omega (arith, h)
refused EsiText h = omega (arith, h)
refused BufferShort h = omega (arith, h)
refused AlgorithmNotUsable h = omega (arith, h)
refused BadRecord h = omega (arith, h)
refused WaitOutOfRange h = omega (arith, h)
refused FlowLength h = omega (arith, h)
refused StepOutOfRange h = omega (arith, h)
refused RangesWrong h = omega (arith, h)
refused CandidatesWrong h = omega (arith, h)
refused EventUnknown h = omega (arith, h)

-- the line of an answer, by its cases
pub line_refused : (r : Refusal) → line 113 (refusal_number r) ≡ query_line (answer_of (Err r))
line_refused r = query-refused (answer_of (Err r)) (refused r)

pub line_elected : (e : Elected) → elected_line e.family e.address e.n ≡ query_line (answer_of (Ok e))
line_elected e = query-accepted (answer_of (Ok e)) refl
