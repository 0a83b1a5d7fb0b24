-- `count` meets its contract. Assumes nothing.
use native.Mathlib.Omega.{arith}
use Rattle.layout.proofs.Words.{length-valid, count_word}
use Rattle.layout.proofs.count.Statement.{statement}
use Rattle.layout.proofs.count.Tie as tie

shared-slice-read-result : tie.Need-bounds-t-384
shared-slice-read-result c = let start = c.before in omega (arith, length-valid start.args.t.now start.requires)

cast-result : tie.Need-overflow_cast-result
cast-result c = let start = c.before in omega (arith, count_word start.args.t.now start.requires, start.requires.sound.short)

returns : tie.Need-returns
returns c = let start = c.before in count_word start.args.t.now start.requires

pub count_spec : {M : Type 1} → statement M
count_spec =
    tie.close
    (tie.spec
    shared-slice-read-result
    cast-result
    returns)
