-- What is written lies inside the buffer, and what is left leaves room in the block.
use Rattle.std.proofs.Common.{arith}
use mathlib.Core.Path.{sym}
use lib.Seq.{length-take-le}
use Rattle.blocks.proofs.Blocks.{left-short}
use Rattle.bench.proofs.turn.Goals as goal

pub slice_bounds-write_lines-end : goal.slice_bounds-write_lines-end
slice_bounds-write_lines-end g c = omega (arith, c.take_block-taken.ensures.run.wrote)

pub slice_bounds-write_lines-end-2 : goal.slice_bounds-write_lines-end-2
slice_bounds-write_lines-end-2 g c = sym (length-take-le _ _ (omega (arith, c.take_block-taken.ensures.run.wrote)))

pub read_more-requires : goal.read_more-requires
read_more-requires g c = omega (arith, left-short c.take_block-taken.ensures.run c.in-Read.is, c.requires.0)
