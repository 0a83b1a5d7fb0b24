-- The DF election finite state machine (document 02, M-100; RFC 8584, section 2.1).
--   state_number s       == the number of the state s: INIT 0, DF_WAIT 1, DF_CALC 2, DF_DONE 3
--   event_number e       == the number of the event e: ES_UP 0, ES_DOWN 1, VLAN_CHANGE 2, RCVD_ES 3, LOST_ES 4, DF_TIMER 5, CALCULATED 6
--   in_state a s         == whether the state s is a
--   moves a b s         == b where the state s is a; every other state stays
--   next_state s e       == the next state
--   starts s e          == whether the event e in the state s starts the wait: the ES_UP that leaves INIT
--   waited_of now since  == the time waited: the later reading minus the earlier, modulo 2^32
--   due m now           == whether the clock reading yields DF_TIMER
--   in_init w            == the machine in INIT with the wait w
--   Answer               == the answer to making a machine, or to an event that is handed in as a number: 0 or a refusal's number, and the machine
--   answered m r         == the answer for the result r of an event that is handed in as a number, where on a refusal the machine is m, as it was
--   made_of w            == the answer to making a machine with the wait w
--   drive_of m e now     == the machine m after the event e, with the clock reading handed in
--   tick_of m now        == the machine m after a clock reading alone
use Rattle.std.specs.Prelude.{ℕ, ◌+◌, ◌-◌, ◌%◌, ◌^◌, Bool, cond, ◌&&◌, ◌==◌, nat_le, Result, Ok, Err}
use Rattle.refusals.specs.Refusals.{wait_out_of_range}
use Rattle.refusals.specs.Numbers.{refusal_number}
use Rattle.refusals.specs.declared.Refusal.{Refusal}
use Rattle.fsm.specs.declared.State.{State}
use Rattle.fsm.specs.declared.State.TheVariants.{Init, DfWait, DfCalc, DfDone}
use Rattle.fsm.specs.declared.Event.{Event}
use Rattle.fsm.specs.declared.Event.TheVariants.{EsUp, EsDown, VlanChange, RcvdEs, LostEs, DfTimer, Calculated}
use Rattle.fsm.specs.declared.Machine.{Machine}

abbrev pub state_number : State → ℕ
state_number Init = 0
state_number DfWait = 1
state_number DfCalc = 2
state_number DfDone = 3

abbrev pub event_number : Event → ℕ
event_number EsUp = 0
event_number EsDown = 1
event_number VlanChange = 2
event_number RcvdEs = 3
event_number LostEs = 4
event_number DfTimer = 5
event_number Calculated = 6

abbrev pub in_state : State → State → Bool
in_state a s = state_number a == state_number s

abbrev pub moves : State → State → State → State
moves a b s = cond (in_state a s) b s

-- the rule: ES_DOWN leads to INIT from anywhere; INIT leaves on ES_UP only, to DF_WAIT; DF_WAIT on DF_TIMER, to DF_CALC; DF_CALC on CALCULATED, to
-- DF_DONE; DF_DONE on VLAN_CHANGE, RCVD_ES or LOST_ES, to DF_CALC; every other cell stays
unfoldable pub next_state : State → Event → State
next_state s EsDown = Init
next_state s EsUp = moves Init DfWait s
next_state s DfTimer = moves DfWait DfCalc s
next_state s Calculated = moves DfCalc DfDone s
next_state s VlanChange = moves DfDone DfCalc s
next_state s RcvdEs = moves DfDone DfCalc s
next_state s LostEs = moves DfDone DfCalc s

unfoldable pub starts : State → Event → Bool
starts s e = in_state Init s && event_number e == event_number EsUp

-- both readings are below 2^32
unfoldable pub waited_of : ℕ → ℕ → ℕ
waited_of now since = (now + 2 ^ 32 - since) % 2 ^ 32

unfoldable pub due : Machine → ℕ → Bool
due m now = in_state DfWait m.state && nat_le m.wait (waited_of now m.since)

abbrev pub in_init : ℕ → Machine
in_init w = record { state = Init; wait = w; since = 0 }

pub record Answer : Type 0 where
  pub number : ℕ
  pub machine : Machine

abbrev pub answered : Machine → Result Machine Refusal → Answer
answered m (Ok n) = record { number = 0; machine = n }
answered m (Err r) = record { number = refusal_number r; machine = m }

-- 17 for a wait that is not 1 to 600
unfoldable pub made_of : ℕ → Answer
made_of w = cond (nat_le 1 w && nat_le w 600) (record { number = 0; machine = in_init w }) (record { number = wait_out_of_range; machine = in_init 0 })

unfoldable pub drive_of : Machine → Event → ℕ → Machine
drive_of m e now = record { state = next_state m.state e; wait = m.wait; since = cond (starts m.state e) now m.since }

unfoldable pub tick_of : Machine → ℕ → Machine
tick_of m now = cond (due m now) (drive_of m DfTimer now) m
