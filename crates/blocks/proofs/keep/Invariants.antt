-- The loop's invariant: the first i of the kept octets stand at the front, before the octets that were there.
use Rattle.std.proofs.Common.{◌≡◌, ◌++◌, length, take, drop}
use Rattle.blocks.specs.Blocks.{kept}
use Rattle.blocks.proofs.keep.Given as goal

abbrev pub invariant-loop-i : goal.invariant-loop-i
invariant-loop-i l = (length l.block ≡ length l.fn.block) × (l.block ≡ take l.i (kept l.fn.block l.fn.used l.fn.filled) ++ drop l.i l.fn.block)
