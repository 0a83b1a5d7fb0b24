-- `judge` meets its contract: the first record, or a later one. Assumes nothing.
use Rattle.judgement.specs.Judgement.{judged_of}
use borrow.Author.Rules.{rules}
use Rattle.judgement.proofs.judge.Statement.{statement}
use Rattle.judgement.proofs.judge.Tie as tie

returns : tie.Need-returns-then-first
unfolding judged_of
returns c = rw c.if-first.true c.first_record.ensures

returns-2 : tie.Need-returns
unfolding judged_of
returns-2 c = rw c.if-first.false c.later_record.ensures

pub judge_spec : {M : Type 1} → statement M
judge_spec =
    tie.close
    (tie.spec
    (λ c κs. search rules)
    returns
    (λ c κs. search rules)
    returns-2)
