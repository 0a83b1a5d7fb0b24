-- `head_is` meets its contract. Assumes nothing.
use native.Mathlib.Omega.{arith}
use mathlib.Core.Path.{sym, ◌∙◌}
use borrow.Author.Rules.{rules}
use borrow.Author.Tests.{eqb-true}
use Rattle.circuit_ready.proofs.head_is.Statement.{statement}
use Rattle.circuit_ready.proofs.head_is.Tie as tie

returns : tie.Need-returns
returns c e = eqb-true _ _ (sym c.same_at.ensures ∙ e)

pub head_is_spec : {M : Type 1} → statement M
head_is_spec =
    tie.close
    (tie.spec
    (λ c. search rules)
    (λ c κs. omega arith)
    returns)
