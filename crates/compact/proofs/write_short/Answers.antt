-- What is written lies inside the buffer.
use Rattle.std.proofs.Common.{arith, length}
use mathlib.Core.Path.{sym}
use lib.Seq.{length-take-le}
use Rattle.layout.specs.Words.{table_in}
use Rattle.log_octets.proofs.Laws.{length-within}
use Rattle.compact.proofs.write_short.Goals as goal

pub slice_bounds-write_all-end : goal.slice_bounds-write_all-end
slice_bounds-write_all-end g c =
    omega (arith, c.in-Ok.ensures.answer.1, length-within (table_in c.args.t.now) (length c.args.out.now))

pub slice_bounds-write_all-end-2 : goal.slice_bounds-write_all-end-2
slice_bounds-write_all-end-2 g c =
    sym (length-take-le _ _ (omega (arith, c.in-Ok.ensures.answer.1, length-within (table_in c.args.t.now) (length c.args.out.now))))
