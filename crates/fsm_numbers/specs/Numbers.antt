-- Events handed in as numbers (document 02, M-100).
--   event_of n              == the event of the number n, if it has one
--   numbered_answer m now e == the answer for the event e, or 23 for nothing
--   driven_of m n now       == the answer for an event that is handed in as the number n
use Rattle.std.specs.Prelude.{ℕ, cond, eqb, Option, Some, None}
use Rattle.refusals.specs.Refusals.{event_unknown}
use Rattle.fsm.specs.declared.Event.{Event}
use Rattle.fsm.specs.declared.Event.TheVariants.{EsUp, EsDown, VlanChange, RcvdEs, LostEs, DfTimer, Calculated}
use Rattle.fsm.specs.declared.Machine.{Machine}
use Rattle.fsm.specs.Machine.{Answer, drive_of}

unfoldable pub event_of : ℕ → Option Event
event_of n =
    cond (eqb n 0) (Some EsUp)
    (cond (eqb n 1) (Some EsDown)
    (cond (eqb n 2) (Some VlanChange)
    (cond (eqb n 3) (Some RcvdEs)
    (cond (eqb n 4) (Some LostEs)
    (cond (eqb n 5) (Some DfTimer)
    (cond (eqb n 6) (Some Calculated) None))))))

unfoldable pub numbered_answer : Machine → ℕ → Option Event → Answer
numbered_answer m now (Some e) = record { number = 0; machine = drive_of m e now }
numbered_answer m now None = record { number = event_unknown; machine = m }

unfoldable pub driven_of : Machine → ℕ → ℕ → Answer
driven_of m n now = numbered_answer m now (event_of n)
