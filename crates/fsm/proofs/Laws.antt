-- Laws of the machine's definitions.
--   at-state, at-event     a table of one value for each state, or event, looked up by the number
--   cell                   the table of the next states, looked up by state and event
--   rows, columns          a number of a state, or an event, is one of the table's
--   wrapped                what is wrapped to the later reading by the earlier is the difference modulo 2^32
--   made, unmade-zero, unmade-long   the answer to a wait from 1 to 600, to 0 and to a longer one
-- Assumes nothing.
use Rattle.std.proofs.Common.{◌≡◌, ℕ, ◌+◌, ◌%◌, ◌^◌, ◌<◌, ◌≤◌, List, [], ◌∷◌, map, get_or, refl, ap, ◌∙◌, arith, le-leb}
use borrow.Author.Tests.{lt-leb}
use Rattle.fsm.specs.declared.State.{State}
use Rattle.fsm.specs.declared.State.TheVariants.{Init, DfWait, DfCalc, DfDone}
use Rattle.fsm.specs.declared.Event.{Event}
use Rattle.fsm.specs.declared.Event.TheVariants.{EsUp, EsDown, VlanChange, RcvdEs, LostEs, DfTimer, Calculated}
use Rattle.fsm.specs.Machine.{state_number, event_number, next_state, waited_of, in_init, made_of}

-- ---- the table
abbrev pub states : List State
states = Init ∷ DfWait ∷ DfCalc ∷ DfDone ∷ []

abbrev pub events : List Event
events = EsUp ∷ EsDown ∷ VlanChange ∷ RcvdEs ∷ LostEs ∷ DfTimer ∷ Calculated ∷ []

-- the table that the rule makes: the code's, written out, is this one by computation
abbrev pub cells : List (List State)
cells = map (λ s. map (next_state s) events) states

at-state : {A : Type 0} (g : State → A) (d : A) (s : State) → get_or (map g states) (state_number s) d ≡ g s
at-state g d Init = refl
at-state g d DfWait = refl
at-state g d DfCalc = refl
at-state g d DfDone = refl

at-event : {A : Type 0} (g : Event → A) (d : A) (e : Event) → get_or (map g events) (event_number e) d ≡ g e
at-event g d EsUp = refl
at-event g d EsDown = refl
at-event g d VlanChange = refl
at-event g d RcvdEs = refl
at-event g d LostEs = refl
at-event g d DfTimer = refl
at-event g d Calculated = refl

pub cell : (s : State) (e : Event) (row : List State) (d : State) → get_or (get_or cells (state_number s) row) (event_number e) d ≡ next_state s e
cell s e row d =
    ap (λ (l : List State). get_or l (event_number e) d) (at-state (λ s. map (next_state s) events) row s)
    ∙ at-event (next_state s) d e

pub rows : (s : State) → state_number s < 4
rows Init = omega arith
rows DfWait = omega arith
rows DfCalc = omega arith
rows DfDone = omega arith

pub columns : (e : Event) → event_number e < 7
columns EsUp = omega arith
columns EsDown = omega arith
columns VlanChange = omega arith
columns RcvdEs = omega arith
columns LostEs = omega arith
columns DfTimer = omega arith
columns Calculated = omega arith

-- ---- the clock
pub wrapped : (now since r : ℕ) → r < 2 ^ 32 → since < 2 ^ 32 → (r + since) % 2 ^ 32 ≡ now → r ≡ waited_of now since
unfolding waited_of
wrapped now since r hr hs e = omega arith

-- ---- what a wait makes
pub made : (w : ℕ) → (w ≡ 0 → ⊥) → w ≤ 600 → record { number = 0; machine = in_init w } ≡ made_of w
unfolding made_of
made w p h = rw (le-leb 1 w (one w p), le-leb w 600 h)
  where
    one : (w : ℕ) → (w ≡ 0 → ⊥) → 1 ≤ w
    one w p = omega arith

pub unmade-zero : (w : ℕ) → w ≡ 0 → record { number = 17; machine = in_init 0 } ≡ made_of w
unfolding made_of
unmade-zero w e = rw e

pub unmade-long : (w : ℕ) → 600 < w → record { number = 17; machine = in_init 0 } ≡ made_of w
unfolding made_of
unmade-long w h = rw (lt-leb w 600 h, le-leb 1 w (omega arith))
