-- `put_bad` meets its contract: the run of octets is the line. Assumes nothing.
use borrow.Author.Rules.{rules}
use Rattle.answer_lines.proofs.put_bad.Statement.{statement}
use Rattle.answer_lines.proofs.put_bad.Tie as tie

returns : tie.Need-returns
returns c = c.put_run.ensures

pub put_bad_spec : {M : Type 1} → statement M
put_bad_spec =
    tie.close
    (tie.spec
    (λ c κs. search rules)
    (λ c. search rules)
    returns)
