-- Every announcement leaves a table that the calls made.
use Rattle.segment_state.specs.State.{ValidSegment}
use Rattle.limit_vectors.proofs.sixty_four.Given as goal

abbrev pub invariant-loop-n : goal.invariant-loop-n
invariant-loop-n l = ValidSegment l.t.words
