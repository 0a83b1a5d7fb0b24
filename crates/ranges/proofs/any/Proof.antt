-- `any` meets its contract: the first word is how many ranges there are. Assumes nothing.
use Prim.Native.Nat.{ℕ}
use native.Mathlib.Omega.{arith}
use mathlib.Core.Path.{ap}
use mathlib.Core.Bool.{not}
use lib.Dec.{eqb}
use Rattle.ranges.proofs.Laws.{length-ranges, count_word}
use Rattle.ranges.proofs.any.Statement.{statement}
use Rattle.ranges.proofs.any.Tie as tie

shared-slice-read-result : tie.Need-bounds-b-0
shared-slice-read-result c = let start = c.before in omega (arith, length-ranges start.args.b.now start.requires)

returns : tie.Need-returns
returns c = let start = c.before in ap (λ (n : ℕ). not (eqb n 0)) (count_word start.args.b.now start.requires)

pub any_spec : {M : Type 1} → statement M
any_spec =
    tie.close
    (tie.spec
    shared-slice-read-result
    returns)
