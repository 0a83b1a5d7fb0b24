-- Losing a bystander disturbs nobody (document 02, M-107). Where all routes agree on an algorithm other than 0 and on AC-DF, a router that is elected stays elected when another
-- one is withdrawn: for every tag, ready list and query, with numbers and ranges set or not, and in the election over both tables beside the same A-D routes. Of algorithm 0 this
-- is not claimed: it counts the candidates, so of three routers the second is elected for tag 1, and the third when the first is withdrawn.
--   Agreed s l          == where s is set, all routes of l agree on an algorithm other than 0, that is, on 1, 2, 3 or a number that is set, and on AC-DF
--   Undisturbed s a u   == whoever the elections upon the state s name, if it is not the address a, those upon the state u name too, under the same algorithm
use Rattle.std.specs.Prelude.{ℕ, ◌≡◌, List}
use Rattle.layout.specs.Table.{Entry}
use Rattle.settings.specs.Settings.{Settings}
use Rattle.segment_state.specs.State.{Segment}
use Rattle.agreement.specs.Agreement.{in_use_with}
use Rattle.election.specs.Queries.{Query}
use Rattle.forwarders.specs.Forwarders.{elect_in, elect_circuits, Names, SameForwarder}

abbrev pub Agreed : Settings → List Entry → Type 0
Agreed s l = (in_use_with s l).algorithm ≡ 0 → ⊥

pub record Undisturbed (s : Segment) (a : List ℕ) (u : Segment) : Type 0 where
  pub queries : (q : Query) (tag : ℕ) (ready : List (List ℕ)) → Agreed s.settings s.table.entries
      → (elect_in s q tag ready).number ≡ 0 → (Names (elect_in s q tag ready) a → ⊥) → SameForwarder (elect_in s q tag ready) (elect_in u q tag ready)
  pub circuits : (c : List (List ℕ)) (tag : ℕ) → Agreed s.settings s.table.entries
      → (elect_circuits s c tag).number ≡ 0 → (Names (elect_circuits s c tag) a → ⊥) → SameForwarder (elect_circuits s c tag) (elect_circuits u c tag)
