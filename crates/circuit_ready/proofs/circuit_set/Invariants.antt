-- Before each place, the set is that of the ready routers asked for so far, and two rows start where their routes are looked for next, the per-segment one's no
-- later. Assumes nothing.
use Rattle.std.proofs.Common.{◌≡◌, ◌≤◌, ◌%◌, take}
use Rattle.layout.specs.Words.{table_in}
use Rattle.circuit_layout.specs.Circuits.{circuits_in}
use Rattle.places.specs.Places.{set_of}
use Rattle.circuit_ready.proofs.Laws.{flags}
use Rattle.circuit_ready.proofs.circuit_set.Given as goal

abbrev pub invariant-loop-at : goal.invariant-loop-at
invariant-loop-at l = record {
  so_far : l.set ≡ set_of (flags (circuits_in l.circuits) l.tag (take l.at (table_in l.t).entries));
  segment_starts : l.segment % 7 ≡ 0;
  instance_starts : l.instance % 7 ≡ 0;
  in_order : l.segment ≤ l.instance;
}
