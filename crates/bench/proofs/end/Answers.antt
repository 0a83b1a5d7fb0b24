-- What is written lies inside the buffer.
use Rattle.std.proofs.Common.{arith}
use mathlib.Core.Path.{sym}
use lib.Seq.{length-take-le}
use Rattle.lines.proofs.Laws.{put-within, put-length}
use Rattle.bench.proofs.end.Goals as goal

pub slice_bounds-write_lines-end : goal.slice_bounds-write_lines-end
slice_bounds-write_lines-end g c =
    let p = c.finish-wrote.ensures.answer in
    omega (arith, put-within p (omega arith), put-length p)

pub slice_bounds-write_lines-end-2 : goal.slice_bounds-write_lines-end-2
slice_bounds-write_lines-end-2 g c =
    let p = c.finish-wrote.ensures.answer in
    sym (length-take-le _ _ (omega (arith, put-within p (omega arith), put-length p)))
