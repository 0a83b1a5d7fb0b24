-- What the driver answers and writes for an item.
--   item_answer m k e n  == the answer to the item of the kind k, the event's number e and the number n, where the machine is m
--   item_octets a        == the ten octets that are written for the answer a
use Rattle.std.specs.Prelude.{ℕ, cond, List, ◌∷◌, ◌++◌, eqb}
use Rattle.octets.specs.Octets.{octets_of}
use Rattle.fsm.specs.declared.Machine.{Machine}
use Rattle.fsm.specs.Machine.{Answer, state_number, made_of, tick_of}
use Rattle.fsm_numbers.specs.Numbers.{driven_of}

unfoldable pub item_answer : Machine → ℕ → ℕ → ℕ → Answer
item_answer m k e n = cond (eqb k 0) (driven_of m e n) (cond (eqb k 1) (record { number = 0; machine = tick_of m n }) (made_of n))

unfoldable pub item_octets : Answer → List ℕ
item_octets a = a.number ∷ state_number a.machine.state ∷ (octets_of 4 a.machine.wait ++ octets_of 4 a.machine.since)
