-- The addresses before each place stand in both rows. Assumes nothing.
use Rattle.std.proofs.Common.{ℕ, ◌+◌, ◌*◌, ◌<◌}
use Rattle.circuit_ready.specs.Steps.{SameWords}
use Rattle.circuit_ready.proofs.addresses_are.Given as goal

abbrev pub invariant-loop-i : goal.invariant-loop-i
invariant-loop-i l = (j : ℕ) → j < l.i → SameWords l.width l.t (j * 5) l.circuits (j * 7 + 2) × SameWords l.width l.t (j * 5) l.circuits (l.start + (j * 7 + 2))
