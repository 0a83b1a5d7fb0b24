-- `refuse` meets its contract: the line `x 16` is written, and there is room for it. Assumes nothing.
use native.Mathlib.Omega.{arith}
use mathlib.Core.Path.{refl}
use Rattle.answer_lines.proofs.Laws.{written}
use borrow.Author.Rules.{rules}
use Rattle.turns.proofs.refuse.Statement.{statement}
use Rattle.turns.proofs.refuse.Tie as tie

returns : tie.Need-returns
returns c =
    let call = c.before.before in
    λ w k. record { put = written call.put_bad-end.ensures (omega arith); next = refl; kept = k }

pub refuse_spec : {M : Type 1} → statement M
refuse_spec =
    tie.close
    (tie.spec
    (λ c κs. search rules)
    (λ c. search rules)
    returns)
