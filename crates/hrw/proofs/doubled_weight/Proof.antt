-- `doubled_weight` meets its contract: its formula is document 01's doubled, reduced before the second product, so its ties are the formula's. Assumes nothing.
use native.Mathlib.Omega.{arith}
use borrow.Author.Rules.{rules}
use Rattle.hrw.proofs.Laws.{weight_of-doubled}
use Rattle.hrw.proofs.Ties.{tie-exactly}
use Rattle.hrw.proofs.doubled_weight.Statement.{statement}
use Rattle.hrw.proofs.doubled_weight.Tie as tie

returns : tie.Need-returns
returns c =
    let answer = weight_of-doubled c.args.address c.args.digest in
    (answer, tie-exactly c.args.address c.args.digest _ (omega (arith, answer)))

pub doubled_weight_spec : {M : Type 1} → statement M
doubled_weight_spec =
    tie.close
    (tie.spec
    (λ c. search rules)
    (λ c. search rules)
    (λ c. search rules)
    (λ c. search rules)
    (λ c. search rules)
    returns)
