-- The elections upon the state of a segment, and who their answers name (document 02, M-107).
--   elect_in s q tag ready    == the election for the query q upon the state s
--   elect_circuits s c tag    == the election over both tables, beside the A-D routes c
--   Names r a                == the answer r names the address a: a router finds its own address in the answer
--   SameForwarder r q        == the answer q names the router that r names, and tells the same algorithm in use
use Rattle.std.specs.Prelude.{ℕ, ◌≡◌, List}
use Rattle.address.specs.Address.{family_of, address_words}
use Rattle.segment_state.specs.State.{Segment}
use Rattle.answers.specs.Answers.{Answer}
use Rattle.election.specs.Queries.{Query, elect_with}
use Rattle.circuit_election.specs.Over.{elect_over}

abbrev pub elect_in : Segment → Query → ℕ → List (List ℕ) → Answer
elect_in s q tag ready = elect_with s.settings q s.table.esi s.table.entries tag ready

abbrev pub elect_circuits : Segment → List (List ℕ) → ℕ → Answer
elect_circuits s c tag = elect_over s.settings s.table.esi s.table.entries c tag

abbrev pub Names : Answer → List ℕ → Type 0
Names r a = (r.number ≡ 0) × (r.family ≡ family_of a) × (r.address ≡ address_words a)

pub record SameForwarder (r q : Answer) : Type 0 where
  pub number : q.number ≡ 0
  pub family : q.family ≡ r.family
  pub address : q.address ≡ r.address
  pub algorithm : q.algorithm ≡ r.algorithm
