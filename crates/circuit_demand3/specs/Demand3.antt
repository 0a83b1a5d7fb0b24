-- Demand 3 for the table of A-D routes (document 02, M-102): one claim of a whole list of its calls, of any length, from a fresh table.
--   circuit_replies cs     == what the calls cs answer, one after another from the fresh table, which holds no route
--   circuits_after cs      == the routes that they leave
--   CircuitFollows l c r m == wherever a list of calls leaves the routes l, the list with the call c at its end has r for its last reply and leaves the routes m
--   CircuitsDemand3 cs    == the claim
use Rattle.std.specs.Prelude.{ℕ, ◌≡◌, length, replicate}
use mathlib.Core.List.{List, [], ◌∷◌, ◌++◌, map, Permᴰ}
use Rattle.std.proofs.Math.Option.{none}
use Rattle.keyed.specs.Keyed.{Rising, Distinct}
use Rattle.keyed.specs.Journal.{after, answers, held_at, last_held}
use Rattle.rows.specs.Rows.{row_key}
use Rattle.segment_state.specs.State.{Segment}
use Rattle.circuit_layout.specs.Circuits.{CircuitsRight, circuit_words}
use Rattle.circuit_election.specs.Over.{elect_over}
use Rattle.circuit_demand3.specs.Calls.{CircuitCall, elect, CircuitReply, change_reply, elect_reply, circuit_number, circuit_reply, circuits_left}
use Rattle.circuit_demand3.specs.Journal.{AdAnnouncement, route_from, route_key, again_circuit, routes_from, circuit_effect, step_held, circuit_journal_reply, circuits_held}

abbrev pub circuit_replies : List CircuitCall → List CircuitReply
circuit_replies cs = answers circuit_reply circuits_left [] cs

abbrev pub circuits_after : List CircuitCall → List (List ℕ)
circuits_after cs = after circuits_left [] cs

-- with this promise of each call, what a program's calls answer and leave is, by induction, what their list does
abbrev pub CircuitFollows : List (List ℕ) → CircuitCall → CircuitReply → List (List ℕ) → Type 0
CircuitFollows l c r m = (cs : List CircuitCall) → l ≡ circuits_after cs
    → (circuit_replies (cs ++ c ∷ []) ≡ circuit_replies cs ++ r ∷ []) × (circuits_after (cs ++ c ∷ []) ≡ m)

pub record CircuitsDemand3 (cs : List CircuitCall) : Type 0 where
  -- call by call the reply is the journal's: so an announcement or a withdrawal is accepted exactly if the journal accepts it
  pub told : circuit_replies cs ≡ answers circuit_journal_reply step_held [] cs
  -- elections and refused calls leave the routes as they got them. Of elections this holds by definition: the code gets both tables by shared references
  pub elections : (s : Segment) (tag : ℕ) → circuits_left (circuits_after cs) (elect s tag) ≡ circuits_after cs
  pub refusals : (c : CircuitCall) → (circuit_number (circuit_reply (circuits_after cs) c) ≡ 0 → ⊥) → circuits_left (circuits_after cs) c ≡ circuits_after cs
  -- one announcement is held for each kind, tag and address
  pub single : Distinct route_key (circuits_held cs)
  -- a route is held exactly if its last accepted announcement or withdrawal, by the table's own replies, was an announcement
  pub last : (k : ℕ) → held_at route_key k (circuits_held cs) ≡ last_held route_key circuit_effect k none cs (map circuit_number (circuit_replies cs))
  -- the routes at the end have what every call keeps of a table
  pub sound : CircuitsRight (circuits_after cs)
  -- what is held, announced alone and in any order to another fresh table, is accepted each time, and the state is the same: the routes, and all the words that
  -- a caller holds, unused places with their zeros too
  pub accepted : (order : List AdAnnouncement) → Permᴰ order (circuits_held cs) → circuit_replies (map again_circuit order) ≡ replicate (length order) (change_reply 0)
  pub state : (order : List AdAnnouncement) → Permᴰ order (circuits_held cs) → circuits_after (map again_circuit order) ≡ circuits_after cs
  pub words : (order : List AdAnnouncement) → Permᴰ order (circuits_held cs) → circuit_words (circuits_after (map again_circuit order)) ≡ circuit_words (circuits_after cs)
  -- the routes of what is held can be put in rising order, and in one way only
  pub rising : Rising row_key 0 (routes_from (circuits_held cs))
  pub all : Permᴰ (routes_from (circuits_held cs)) (map route_from (circuits_held cs))
  pub only : (l : List (List ℕ)) → Rising row_key 0 l → Permᴰ l (map route_from (circuits_held cs)) → l ≡ routes_from (circuits_held cs)
  -- beside every route table with its settings and for every tag the whole answer of the election over both tables, at the end and after what is held was announced alone, is
  -- the one for these routes
  pub answer : (s : Segment) (tag : ℕ)
      → circuit_reply (circuits_after cs) (elect s tag) ≡ elect_reply (elect_over s.settings s.table.esi s.table.entries (routes_from (circuits_held cs)) tag)
  pub answer_again : (order : List AdAnnouncement) → Permᴰ order (circuits_held cs) → (s : Segment) (tag : ℕ)
      → circuit_reply (circuits_after (map again_circuit order)) (elect s tag) ≡ elect_reply (elect_over s.settings s.table.esi s.table.entries (routes_from (circuits_held cs)) tag)
