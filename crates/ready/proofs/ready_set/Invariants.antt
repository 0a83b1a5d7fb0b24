-- At every turn the row that comes next starts at its place, and the set is that of the addresses looked up so far. Assumes nothing.
use Rattle.std.proofs.Common.{◌≡◌, ◌*◌, take}
use Rattle.layout.specs.Words.{table_in}
use Rattle.places.specs.Places.{set_of}
use Rattle.ready.specs.Ready.{ready_in}
use Rattle.ready.proofs.Laws.{flags}
use Rattle.ready.proofs.ready_set.Given as goal

abbrev pub invariant-loop-i : goal.invariant-loop-i
invariant-loop-i l = (l.start ≡ l._i * 5) × (l.set ≡ set_of (flags (take l._i (ready_in l.ready)) (table_in l.t).entries))
