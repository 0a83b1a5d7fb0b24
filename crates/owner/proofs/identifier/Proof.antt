-- `identifier` meets its contract: the octets of three words. Assumes nothing.
use native.Mathlib.Omega.{arith}
use borrow.Author.Rules.{rules}
use Rattle.layout.proofs.Words.{length-valid}
use Rattle.owner.proofs.Laws.{read}
use Rattle.owner.proofs.identifier.Statement.{statement}
use Rattle.owner.proofs.identifier.Tie as tie

first-in : tie.Need-bounds-t-385
first-in c = let start = c.before.before in omega (arith, length-valid start.args.t.now start.requires)

second-in : tie.Need-bounds-t
second-in c = let start = c.before.before.before.before in omega (arith, length-valid start.args.t.now start.requires)

third-in : tie.Need-bounds-t-2
third-in c = let start = c.before.before.before.before.before.before in omega (arith, length-valid start.args.t.now start.requires)

returns : tie.Need-returns
returns c =
    let second = c.before.before in
    let first = second.before.before in
    let start = first.before.before.before in
    read start.args.t.now start.requires _ _ _ first.of_low-a.ensures second.of_low-b.ensures c.of_low-c.ensures

pub identifier_spec : {M : Type 1} → statement M
identifier_spec =
    tie.close
    (tie.spec
    first-in
    (λ c κs. search rules)
    (λ c. search rules)
    (λ c. search rules)
    second-in
    (λ c κs. search rules)
    (λ c. search rules)
    (λ c. search rules)
    third-in
    (λ c κs. search rules)
    (λ c. search rules)
    (λ c. search rules)
    (λ c. search rules)
    (λ c. search rules)
    (λ c. search rules)
    (λ c. search rules)
    (λ c. search rules)
    (λ c. search rules)
    (λ c. search rules)
    (λ c. search rules)
    returns)
