-- `put_small` meets its contract: one, two or three digits. Assumes nothing.
use native.Mathlib.Omega.{arith}
use Rattle.lines.proofs.Laws.{decimal-three}
use Rattle.numerals.proofs.Steps.{small_one, small-two}
use borrow.Author.Rules.{rules}
use Rattle.numerals.proofs.put_small.Statement.{statement}
use Rattle.numerals.proofs.put_small.Tie as tie

returns : tie.Need-returns-then-x-lt10
returns c =
    let a = c.args in
    rw (small_one a.x (omega arith)) c.put_octet.ensures

returns-2 : tie.Need-returns-then-x-lt100
returns-2 c =
    let a = c.args in
    rw (small-two a.x (omega arith) (omega arith)) c.put_run.ensures

returns-3 : tie.Need-returns
returns-3 c =
    let a = c.args in
    rw (decimal-three a.x (omega arith) (omega arith)) c.put_run-2.ensures

pub put_small_spec : {M : Type 1} → statement M
put_small_spec =
    tie.close
    (tie.spec
    (λ c. search rules)
    (λ c κs. search rules)
    (λ c. search rules)
    returns
    (λ c. search rules)
    (λ c. search rules)
    (λ c κs. search rules)
    (λ c. search rules)
    returns-2
    (λ c. search rules)
    (λ c. search rules)
    (λ c κs. search rules)
    (λ c. search rules)
    returns-3)
