-- The calls of a list of calls upon the table of A-D routes, with their arguments besides that table (document 02, M-102, demand 3).
--   announce s a      == the announcement of the route of the scope s and the address a
--   withdraw s a      == its withdrawal
--   elect s tag       == the election over both tables for the tag, beside the state s of a segment: its route table and its settings
--   change_reply, elect_reply == a reply: the number of an announcement or a withdrawal, the whole answer of an election
--   circuit_reply l c  == what the call c answers, where the routes l stand
--   circuit_number r   == the number of the reply r: 0, or a refusal
--   circuits_left l c  == the routes after the call c; an election hands no table back
--   CircuitChanges l c n m == the number n and the routes m are what the call c, an announcement or a withdrawal, answers and leaves
use Rattle.std.specs.Prelude.{ℕ, ◌≡◌, List}
use Rattle.address.specs.declared.Address.{Address}
use Rattle.address.specs.Address.{address_row}
use Rattle.segment_state.specs.State.{Segment}
use Rattle.circuit_layout.specs.declared.Scope.{Scope}
use Rattle.circuits.specs.Changes.{ad_announced, ad_withdrawn}
use Rattle.answers.specs.Answers.{Answer}
use Rattle.circuit_election.specs.Over.{elect_over}

pub data CircuitCall : Type 0 where
  announce : Scope → Address → CircuitCall
  withdraw : Scope → Address → CircuitCall
  elect : Segment → ℕ → CircuitCall

pub data CircuitReply : Type 0 where
  change_reply : ℕ → CircuitReply
  elect_reply : Answer → CircuitReply

unfoldable pub circuit_number : CircuitReply → ℕ
circuit_number (change_reply n) = n
circuit_number (elect_reply a) = a.number

unfoldable pub circuit_reply : List (List ℕ) → CircuitCall → CircuitReply
circuit_reply l (announce s a) = change_reply (ad_announced l s (address_row a)).number
circuit_reply l (withdraw s a) = change_reply (ad_withdrawn l s (address_row a)).number
circuit_reply l (elect s tag) = elect_reply (elect_over s.settings s.table.esi s.table.entries l tag)

unfoldable pub circuits_left : List (List ℕ) → CircuitCall → List (List ℕ)
circuits_left l (announce s a) = (ad_announced l s (address_row a)).routes
circuits_left l (withdraw s a) = (ad_withdrawn l s (address_row a)).routes
circuits_left l (elect s tag) = l

-- ties the code's answers to the list's calls
abbrev pub CircuitChanges : List (List ℕ) → CircuitCall → ℕ → List (List ℕ) → Type 0
CircuitChanges l c n m = (circuit_reply l c ≡ change_reply n) × (circuits_left l c ≡ m)
