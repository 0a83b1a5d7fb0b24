-- `write_segment` meets its contract: the promises of `write_log` upon the table's part of the words. Assumes nothing.
use native.Mathlib.Omega.{arith}
use mathlib.Core.Path.{sym}
use lib.Seq.{length-take-le}
use borrow.Author.Rules.{rules}
use Rattle.segment_state.specs.State.{segment_in}
use Rattle.segment_state.proofs.Laws.{length-state}
use Rattle.compaction.proofs.write_segment.Statement.{statement}
use Rattle.compaction.proofs.write_segment.Tie as tie

slice-aggregate-write-log : tie.Need-slice_bounds-write_log-end
slice-aggregate-write-log c =
    let start = c in
    sym (length-take-le 388 start.args.s.now (omega (arith, length-state start.args.s.now start.requires)))

returns : tie.Need-returns
unfolding segment_in
returns c = c.write_log.ensures

pub write_segment_spec : {M : Type 1} → statement M
write_segment_spec =
    tie.close
    (tie.spec
    slice-aggregate-write-log
    (λ c κs. search rules)
    (λ c. search rules)
    returns)
