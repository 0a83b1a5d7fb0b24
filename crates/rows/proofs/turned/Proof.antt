-- `turned` meets its contract: a word that is put high leaves room for a word. Assumes nothing.
use native.Mathlib.Omega.{arith}
use borrow.Author.Rules.{rules}
use Rattle.rows.proofs.Compared.{turned_lt}
use Rattle.rows.proofs.turned.Statement.{statement}
use Rattle.rows.proofs.turned.Tie as tie

add-result : tie.Need-overflow_add-result
add-result c = record { fits = turned_lt _ _ (omega (arith, c.ranges)) (omega (arith, c.ranges)) }

pub turned_spec : {M : Type 1} → statement M
turned_spec =
    tie.close
    (tie.spec
    (λ c. search rules)
    add-result
    (λ c. search rules))
