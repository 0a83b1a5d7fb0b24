-- `count` meets its contract. Assumes nothing.
use native.Mathlib.Omega.{arith}
use Rattle.circuit_layout.proofs.Words.{length-valid, count_word, short}
use Rattle.circuit_layout.proofs.count.Statement.{statement}
use Rattle.circuit_layout.proofs.count.Tie as tie

shared-slice-read-result : tie.Need-bounds-t-1792
shared-slice-read-result c = let start = c.before in omega (arith, length-valid start.args.t.now start.requires)

cast-result : tie.Need-overflow_cast-result
cast-result c = let start = c.before in omega (arith, count_word start.args.t.now start.requires, short start.args.t.now start.requires)

returns : tie.Need-returns
returns c = let start = c.before in count_word start.args.t.now start.requires

pub count_spec : {M : Type 1} → statement M
count_spec =
    tie.close
    (tie.spec
    shared-slice-read-result
    cast-result
    returns)
