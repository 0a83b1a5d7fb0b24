-- What a list of events and clock readings makes of a machine (document 02, M-100): one claim of a machine that was made and every list, of any length.
--   event e now         == an event, with the clock reading that is handed in with it
--   reading now         == a clock reading alone
--   after_item m x       == the machine m after the item x
--   run m l             == the machine m after the items of l, one after another
--   at s m              == the machine m in the state s, its wait and its start as they are
--   is_event e x         == whether the item x is the event e, with whatever reading
--   fires m x           == whether the item x ends the wait of the machine m in DF_WAIT: a reading at or past the wait, or DF_TIMER handed in
--   each f l            == whether each item of l passes f
--   early m x           == whether x is no ES_DOWN and does not end the wait
--   upheld x            == whether x is no ES_DOWN
--   unfinished x        == whether x is no ES_DOWN and no CALCULATED
--   settled x           == whether x is no ES_DOWN, no VLAN_CHANGE, no RCVD_ES and no LOST_ES
--   Claims made m       == the claim of the machine `made`, as it was made, and of the machine m after a list of items
use Rattle.std.specs.Prelude.{◌≡◌, ℕ, Bool, true, false, not, ◌&&◌, ◌||◌, List, [], ◌∷◌, ◌++◌, ◌==◌, ◌≢◌, nat_le}
use Rattle.fsm.specs.declared.State.{State}
use Rattle.fsm.specs.declared.State.TheVariants.{Init, DfWait, DfCalc, DfDone}
use Rattle.fsm.specs.declared.Event.{Event}
use Rattle.fsm.specs.declared.Event.TheVariants.{EsUp, EsDown, VlanChange, RcvdEs, LostEs, DfTimer, Calculated}
use Rattle.fsm.specs.declared.Machine.{Machine}
use Rattle.fsm.specs.Machine.{event_number, waited_of, drive_of, tick_of}

pub data Item : Type 0 where
  event : Event → ℕ → Item
  reading : ℕ → Item

unfoldable pub after_item : Machine → Item → Machine
after_item m (event e now) = drive_of m e now
after_item m (reading now) = tick_of m now

unfoldable pub run : Machine → List Item → Machine
run m [] = m
run m (x ∷ l) = run (after_item m x) l

abbrev pub at : State → Machine → Machine
at s m = record { state = s; wait = m.wait; since = m.since }

-- KINDS OF ITEMS
unfoldable pub is_event : Event → Item → Bool
is_event e (event f now) = event_number e == event_number f
is_event e (reading now) = false

unfoldable pub fires : Machine → Item → Bool
fires m (event e now) = is_event DfTimer (event e now)
fires m (reading now) = nat_le m.wait (waited_of now m.since)

unfoldable pub each : (Item → Bool) → List Item → Bool
each f [] = true
each f (x ∷ l) = f x && each f l

unfoldable pub upheld : Item → Bool
upheld x = not (is_event EsDown x)

unfoldable pub early : Machine → Item → Bool
early m x = upheld x && not (fires m x)

unfoldable pub unfinished : Item → Bool
unfinished x = upheld x && not (is_event Calculated x)

unfoldable pub settled : Item → Bool
settled x = upheld x && not (is_event VlanChange x || (is_event RcvdEs x || is_event LostEs x))

-- THE CLAIM
pub record Claims (made m : Machine) : Type 0 where
  -- the wait is that of making, for ever
  pub wait : m.wait ≡ made.wait
  -- in DF_WAIT, whatever comes before the first item that ends the wait changes nothing, ES_DOWN apart
  pub waiting : (l : List Item) → m.state ≡ DfWait → each (early m) l ≡ true → run m l ≡ m
  -- that first item, a reading at or past the wait say, leads to DF_CALC, and there the machine stays until ES_DOWN or CALCULATED
  pub calculating : (l : List Item) (x : Item) (k : List Item) → m.state ≡ DfWait → each (early m) l ≡ true → fires m x ≡ true → each unfinished k ≡ true
      → run m (l ++ x ∷ k) ≡ at DfCalc m
  -- and with no ES_DOWN one CALCULATED after it ends in DF_DONE, whatever else comes between; there the machine stays until ES_DOWN, VLAN_CHANGE, RCVD_ES
  -- or LOST_ES
  pub done : (l : List Item) (x : Item) (k : List Item) (now : ℕ) (j : List Item) → m.state ≡ DfWait → each (early m) l ≡ true → fires m x ≡ true
      → each upheld k ≡ true → each settled j ≡ true → run m (l ++ x ∷ (k ++ event Calculated now ∷ j)) ≡ at DfDone m
  -- ES_DOWN leads to INIT from every state
  pub down : (now : ℕ) → after_item m (event EsDown now) ≡ at Init m
  -- DF_DONE is reached from DF_CALC only, by CALCULATED
  pub reached : (x : Item) → (m.state ≢ DfDone) → (after_item m x).state ≡ DfDone → (m.state ≡ DfCalc) × (is_event Calculated x ≡ true)
  -- INIT is left by ES_UP only, to DF_WAIT, and the wait runs from the reading handed in with it
  pub up : (now : ℕ) → m.state ≡ Init → after_item m (event EsUp now) ≡ record { state = DfWait; wait = m.wait; since = now }
  pub idle : (x : Item) → m.state ≡ Init → is_event EsUp x ≡ false → after_item m x ≡ m
  -- outside INIT nothing starts the wait anew
  pub start : (x : Item) → (m.state ≢ Init) → (after_item m x).since ≡ m.since
