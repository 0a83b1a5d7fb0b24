-- `next_in` meets its contract: one law for each test. Assumes nothing.
use native.Mathlib.Omega.{arith}
use mathlib.Core.Path.{sym, ◌∙◌}
use Rattle.blocks.proofs.Blocks.{next-done, next-again, next-read}
use borrow.Author.Rules.{rules}
use Rattle.blocks.proofs.next_in.Statement.{statement}
use Rattle.blocks.proofs.next_in.Tie as tie

returns : tie.Need-returns-then-ended
returns c = next-done _ _ (sym c.ended.ensures ∙ c.if-ended.true)

returns-2 : tie.Need-returns-then-spare-lt-LINE_ROOM
returns-2 c = next-again _ _ (sym c.ended.ensures ∙ c.if-ended.false) c.if-spare-lt-LINE_ROOM.true

returns-3 : tie.Need-returns
returns-3 c = next-read _ _ (sym c.ended.ensures ∙ c.if-ended.false) (omega arith)

pub next_in_spec : {M : Type 1} → statement M
next_in_spec =
    tie.close
    (tie.spec
    (λ c κs. search rules)
    returns
    returns-2
    returns-3)
