-- The block keeps its room for the longest record, and the table is one that the calls made.
use Rattle.std.proofs.Common.{◌≤◌, length}
use Rattle.layout.specs.Words.{Valid}
use Rattle.compact.proofs.run.Given as goal

abbrev pub invariant-loop : goal.invariant-loop
invariant-loop g l = (259 ≤ length l.block) × Valid l.t
