-- `overlaps` meets its contract: neither range ends before the other starts. Assumes nothing.
use borrow.Author.Rules.{rules}
use Rattle.ranges.proofs.Laws.{ends-before, ends-behind}
use Rattle.ranges.proofs.overlaps.Statement.{statement}
use Rattle.ranges.proofs.overlaps.Tie as tie

returns : tie.Need-returns-then-run-j
returns c =
    let start = c.before.before.before in
    let a = start.args in
    ends-before a.run.now a.i start.requires.0 a.j start.requires.1 c.if-run-j.true

returns-2 : tie.Need-returns
returns-2 c =
    let other = c.before.before in
    let start = other.before.before.before in
    let a = start.args in
    ends-behind a.run.now a.i start.requires.0 a.j start.requires.1 other.if-run-j.false

pub overlaps_spec : {M : Type 1} → statement M
overlaps_spec =
    tie.close
    (tie.spec
    (λ c. search rules)
    (λ c. search rules)
    (λ c. search rules)
    (λ c. search rules)
    (λ c. search rules)
    (λ c. search rules)
    (λ c. search rules)
    returns
    (λ c. search rules)
    (λ c. search rules)
    (λ c. search rules)
    (λ c. search rules)
    (λ c. search rules)
    (λ c. search rules)
    (λ c. search rules)
    returns-2)
