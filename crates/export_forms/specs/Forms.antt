-- What exported calls hand in and hand back, in the forms that C reads.
--   exported_answer a   == the answer of an election, field by field
--   handed_in v a b c d == the address of four words, IPv6 where v says so
--   scope_of p tag      == the scope of one tag, where p says so, or else of a whole segment
use Rattle.std.specs.Prelude.{ℕ, Bool, cond}
use Rattle.address.specs.declared.Address.{Address}
use Rattle.address.specs.declared.Family.TheVariants.{V4, V6}
use Rattle.circuit_layout.specs.declared.Scope.{Scope}
use Rattle.circuit_layout.specs.declared.Scope.TheVariants.{Segment, Instance}
use Rattle.answers.specs.Answers as answers
use Rattle.export_forms.specs.declared.Answer.{Answer}

abbrev pub exported_answer : answers.Answer → Answer
exported_answer a = record { number = a.number; family = a.family; address = a.address; algorithm = a.algorithm; n = a.n; candidates = a.candidates }

abbrev pub handed_in : Bool → ℕ → ℕ → ℕ → ℕ → Address
handed_in v a b c d = record { family = cond v V6 V4; w0 = a; w1 = b; w2 = c; w3 = d }

abbrev pub scope_of : Bool → ℕ → Scope
scope_of p tag = cond p (Instance tag) Segment
