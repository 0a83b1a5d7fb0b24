-- `put_octet` meets its contract: one octet stored, or no room. Assumes nothing.
use native.Mathlib.Omega.{arith}
use mathlib.Core.List.{[], ◌∷◌}
use Rattle.lines.proofs.Laws.{put_refused}
use Rattle.lines.proofs.Steps.{put_one}
use borrow.Author.Rules.{rules}
use Rattle.lines.proofs.put_octet.Statement.{statement}
use Rattle.lines.proofs.put_octet.Tie as tie

returns : tie.Need-returns-then-buf-at
returns c =
    let a = c.args in
    put_refused a.buf.now a.at (a.x ∷ []) (omega arith)

returns-2 : tie.Need-returns
returns-2 c =
    let a = c.args in
    put_one a.buf.now a.at a.x (omega arith)

pub put_octet_spec : {M : Type 1} → statement M
put_octet_spec =
    tie.close
    (tie.spec
    returns
    (λ c. search rules)
    (λ c. search rules)
    (λ c. search rules)
    returns-2)
