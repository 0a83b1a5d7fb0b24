-- `withdrawal` meets its contract. Assumes nothing.
use Rattle.judgement.proofs.Laws.{withdrawal-bad, withdrawal-right}
use borrow.Author.Rules.{rules}
use Rattle.judgement.proofs.withdrawal.Statement.{statement}
use Rattle.judgement.proofs.withdrawal.Tie as tie

returns : tie.Need-returns-then-payload-size
returns c = withdrawal-bad _ _ _ c.size.ensures c.if-payload-size.true

returns-2 : tie.Need-returns
returns-2 c = withdrawal-right _ _ _ c.size.ensures c.if-payload-size.false

pub withdrawal_spec : {M : Type 1} → statement M
withdrawal_spec =
    tie.close
    (tie.spec
    (λ c κs. search rules)
    returns
    returns-2)
