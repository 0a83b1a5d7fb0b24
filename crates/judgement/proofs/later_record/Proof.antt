-- `later_record` meets its contract: one case for each kind. Assumes nothing.
use native.Mathlib.Omega.{arith}
use mathlib.Core.Path.{◌∙◌}
use Rattle.judgement.proofs.Laws.{later-1, later-2, later-3, later-4, later-5, later-none}
use borrow.Author.Rules.{rules}
use Rattle.judgement.proofs.later_record.Statement.{statement}
use Rattle.judgement.proofs.later_record.Tie as tie

returns : tie.Need-returns-in-1
returns c = let a = c.args in c.announcement.ensures ∙ later-1 a.kind a.payload.now (omega arith)

returns-2 : tie.Need-returns-in-2
returns-2 c = let a = c.args in c.withdrawal.ensures ∙ later-2 a.kind a.payload.now (omega arith)

returns-3 : tie.Need-returns-in-3
returns-3 c = let a = c.args in c.query.ensures ∙ later-3 a.kind a.payload.now (omega arith)

returns-4 : tie.Need-returns-in-4
returns-4 c = let a = c.args in c.withdrawal-in-4.ensures ∙ later-4 a.kind a.payload.now (omega arith)

returns-5 : tie.Need-returns-in-5
returns-5 c = let a = c.args in c.query-in-5.ensures ∙ later-5 a.kind a.payload.now (omega arith)

returns-6 : tie.Need-returns-in_default
returns-6 c =
    let a = c.args in
    later-none a.kind a.payload.now (λ e. omega (arith, c.in_default.in_default-own.rest)) (λ e. omega (arith, c.in_default.in_default-own.rest)) (λ e. omega (arith, c.in_default.in_default-own.rest)) (λ e. omega (arith, c.in_default.in_default-own.rest)) (λ e. omega (arith, c.in_default.in_default-own.rest))

pub later_record_spec : {M : Type 1} → statement M
later_record_spec =
    tie.close
    (tie.spec
    (λ c κs. search rules)
    (λ c κs. search rules)
    (λ c κs. search rules)
    (λ c κs. search rules)
    (λ c κs. search rules)
    returns
    returns-2
    returns-3
    returns-4
    returns-5
    returns-6)
