-- `octets` meets its contract: sixteen octets, four to a word. Assumes nothing.
use borrow.Author.Rules.{rules}
use Rattle.address.proofs.Laws.{spread}
use Rattle.address.proofs.octets.Statement.{statement}
use Rattle.address.proofs.octets.Tie as tie

returns : tie.Need-returns
returns c =
    let a = c.args in
    spread _ _ _ _ a.w0 a.w1 a.w2 a.w3 c.of_u32-a.ensures c.of_u32-b.ensures c.of_u32-c.ensures c.of_u32-d.ensures

pub octets_spec : {M : Type 1} → statement M
octets_spec =
    tie.close
    (tie.spec
    (λ c κs. search rules)
    (λ c κs. search rules)
    (λ c κs. search rules)
    (λ c κs. search rules)
    (λ c. search rules)
    (λ c. search rules)
    (λ c. search rules)
    (λ c. search rules)
    (λ c. search rules)
    (λ c. search rules)
    (λ c. search rules)
    (λ c. search rules)
    (λ c. search rules)
    (λ c. search rules)
    (λ c. search rules)
    (λ c. search rules)
    (λ c. search rules)
    (λ c. search rules)
    (λ c. search rules)
    (λ c. search rules)
    returns)
