-- `first_look` meets its contract. Assumes nothing.
use native.Mathlib.Omega.{arith}
use borrow.Author.Tests.{lt-ltb, le-ltb}
use Rattle.rows.specs.Rows.{first_look}
use Rattle.rows.proofs.first_look.Statement.{statement}
use Rattle.rows.proofs.first_look.Tie as tie

returns : tie.Need-returns-then-first-n
unfolding first_look
returns c = rw (lt-ltb c.args.first c.args.n (omega arith))

returns-2 : tie.Need-returns
unfolding first_look
returns-2 c = rw (le-ltb c.args.first c.args.n (omega arith)) (omega arith)

pub first_look_spec : {M : Type 1} → statement M
first_look_spec =
    tie.close
    (tie.spec
    returns
    returns-2)
