-- `below` meets its contract: all ones shifted down to n are ones at the places below n. Assumes nothing.
use native.Mathlib.Omega.{arith}
use mathlib.Core.Path.{sym}
use Rattle.places.proofs.Flags.{set_of-none, ones_below}
use Rattle.places.proofs.below.Statement.{statement}
use Rattle.places.proofs.below.Tie as tie

returns : tie.Need-returns-then-n-eq0
returns c = rw c.if-n-eq0.true (sym set_of-none)

returns-2 : tie.Need-returns
returns-2 c = let start = c.before in ones_below start.args.n start.requires

pub below_spec : {M : Type 1} → statement M
below_spec =
    tie.close
    (tie.spec
    returns
    (λ c. omega (arith, c.requires))
    (λ c. omega (arith, c.requires, c.if-n-eq0.false))
    returns-2)
