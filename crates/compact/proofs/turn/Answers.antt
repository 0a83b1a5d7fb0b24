-- What is left leaves room in the block.
use Rattle.std.proofs.Common.{arith}
use Rattle.blocks.proofs.Blocks.{left-short}
use Rattle.compact.proofs.turn.Goals as goal

pub read_more-requires : goal.read_more-requires
read_more-requires g c =
    (omega (arith, left-short c.take_block-taken.ensures.run c.in-Read.is, c.requires.0), c.take_block-taken.ensures.kept)
