-- Demand 3 holds of every list of calls upon the table of A-D routes: the general theorem on journals, at these calls and a capacity of 256. Assumes nothing.
use Prim.Native.Nat.{ℕ}
use native.Mathlib.Omega.{arith}
use mathlib.Core.Path.{◌≡◌, refl, ap, ◌∙◌}
use mathlib.Core.Bool.{cond}
use mathlib.Core.List.Permᴰ
use mathlib.Core.List.{List, [], ◌∷◌, map}
use mathlib.Core.Option.{Option}
use lib.ListN.{length-map, replicate}
use lib.Dec.{eqb}
use Rattle.lists.specs.Lists.{Every}
use Rattle.lists.proofs.Bools.{no-choice}
use Rattle.keyed.specs.Keyed.{Rising, arranged}
use Rattle.keyed.specs.Journal.{after, heard}
use Rattle.keyed.proofs.Journal.{Kept, number-arranged}
use Rattle.keyed.proofs.Replay as replay
use Rattle.rows.specs.Rows.{row_key}
use Rattle.segment_state.specs.State.{Segment}
use Rattle.circuit_layout.specs.Circuits.{CircuitsRight, circuit_words}
use Rattle.answers.specs.Answers.{Answer}
use Rattle.circuit_election.specs.Over.{elect_over}
use Rattle.circuit_demand3.specs.Calls.{CircuitCall, announce, withdraw, elect, CircuitReply, change_reply, elect_reply, circuit_number, circuit_reply, circuits_left}
use Rattle.circuit_demand3.specs.Journal.{AdAnnouncement, route_from, route_key, again_circuit, routes_from, circuit_call_number, circuit_effect, number_held, step_held, circuit_journal_reply}
use Rattle.circuit_demand3.specs.Demand3.{circuits_after, CircuitFollows, CircuitsDemand3}
use Rattle.circuit_demand3.proofs.Calls.{rules, state, announced-number, withdrawn-number, call-state, refused-leaves, call_kept}

-- SINGLE CALLS
-- the number of an election changes nothing that is held
same-heard : (k : ℕ) (o : Option AdAnnouncement) (js : List AdAnnouncement) (g : Unit {0}) (c : CircuitCall)
    → cond (eqb (number_held js c) 0) (heard route_key k (circuit_effect c) o) o
    ≡ cond (eqb (circuit_number (circuit_journal_reply js c)) 0) (heard route_key k (circuit_effect c) o) o
unfolding circuit_number circuit_journal_reply circuit_effect heard
same-heard k o js g (announce s a) = refl
same-heard k o js g (withdraw s a) = refl
same-heard k o js g (elect s tag) = no-choice (eqb (number_held js (elect s tag)) 0) (eqb (elect_over s.settings s.table.esi s.table.entries (routes_from js) tag).number 0) o

own-number : (js : List AdAnnouncement) (g : Unit {0}) (p : AdAnnouncement) → circuit_journal_reply js (again_circuit p) ≡ change_reply (number_held js (again_circuit p))
unfolding circuit_journal_reply
own-number js g p = refl

module _ (js : List AdAnnouncement) where
  agree : (c : CircuitCall) → Kept route_key circuit_call_number circuit_effect again_circuit 256 js → circuit_reply (state (arranged route_key js)) c ≡ circuit_journal_reply js c
  unfolding circuit_reply circuit_journal_reply
  agree (announce s a) k =
      ap change_reply (announced-number (arranged route_key js) s a ∙ number-arranged route_key circuit_call_number circuit_effect again_circuit 256 js (announce s a) k.distinct)
  agree (withdraw s a) k =
      ap change_reply (withdrawn-number (arranged route_key js) s a ∙ number-arranged route_key circuit_call_number circuit_effect again_circuit 256 js (withdraw s a) k.distinct)
  agree (elect s tag) k = refl

-- EVERY LIST OF THEM: the state is the list of the routes itself, and nothing is set
abbrev routes : Unit {0} → List (List ℕ) → List (List ℕ)
routes g l = l

abbrev held : List AdAnnouncement → Unit {0} → List AdAnnouncement
held js g = js

abbrev unset : Unit {0} → CircuitCall → Unit {0}
unset g c = tt

abbrev Any : Unit {0} → Type 0
Any g = Unit {0}

abbrev none-set : Unit {0} → List CircuitCall
none-set g = []

whole : (cs : List CircuitCall)
    → replay.Replayed route_key circuit_call_number circuit_effect again_circuit route_from row_key routes circuits_left circuit_reply held step_held circuit_journal_reply circuit_number change_reply tt unset Any none-set cs
unfolding Every
whole =
    replay.replayed route_key circuit_call_number circuit_effect again_circuit route_from row_key routes circuits_left circuit_reply held step_held circuit_journal_reply circuit_number change_reply tt unset Any none-set 256
    (record {
      rules = rules;
      same = λ p. refl;
      leaves = λ g. call-state;
      steps = λ js g c. refl;
      agrees = λ g. agree;
      heard_same = same-heard;
      own = own-number;
      quiet = λ g p. refl;
      right_first = tt;
      right_set = λ g c r. tt;
      setters = λ g r. tt;
      restored = λ g r l h. refl;
    })

none_right : CircuitsRight []
unfolding Rising Every
none_right = record { short = omega arith; rising = tt; routes = tt }

calls-kept : (l : List (List ℕ)) (cs : List CircuitCall) → CircuitsRight l → CircuitsRight (after circuits_left l cs)
unfolding after
calls-kept l [] w = w
calls-kept l (c ∷ cs) w = calls-kept (circuits_left l c) cs (call_kept l c w)

-- THE WHOLE
pub demand3 : (cs : List CircuitCall) → CircuitsDemand3 cs
unfolding circuits_left circuit_journal_reply
demand3 cs =
    let w = whole cs in
    record {
      told = w.told;
      elections = λ s tag. refl;
      refusals = refused-leaves (circuits_after cs);
      single = w.distinct;
      last = w.last;
      sound = calls-kept [] cs none_right;
      accepted = λ order h. w.accepted (map again_circuit order) (Permᴰ.map again_circuit h) ∙ ap (λ (n : ℕ). replicate n (change_reply 0)) (length-map order again_circuit);
      state = λ order h. w.state (map again_circuit order) (Permᴰ.map again_circuit h);
      words = λ order h. ap circuit_words (w.state (map again_circuit order) (Permᴰ.map again_circuit h));
      rising = w.rising;
      all = w.all;
      only = w.only;
      answer = λ s tag. w.replied (elect s tag);
      answer_again = λ order h s tag. w.replied_again (map again_circuit order) (Permᴰ.map again_circuit h) (elect s tag);
    }

-- ONE CALL MORE at the end of a list
pub follows : (l : List (List ℕ)) (c : CircuitCall) {r : CircuitReply} {m : List (List ℕ)} → circuit_reply l c ≡ r → circuits_left l c ≡ m → CircuitFollows l c r m
follows l c {r} {m} p q cs e = replay.follows circuit_reply circuits_left [] l m c r p q cs e

pub starts : (l : List (List ℕ)) → l ≡ [] → l ≡ circuits_after []
unfolding after
starts l e = e

pub elect-follows : (l : List (List ℕ)) (s : Segment) (tag : ℕ) {r : Answer} → circuit_reply l (elect s tag) ≡ elect_reply r → CircuitFollows l (elect s tag) (elect_reply r) l
unfolding circuits_left
elect-follows l s tag e = follows l (elect s tag) e refl
