-- `put_run` meets its contract: the run is stored, or there is no room. Assumes nothing.
use native.Mathlib.Omega.{arith}
use mathlib.Core.Path.{refl}
use Rattle.lines.proofs.Laws.{put-made, put_refused}
use borrow.Author.Rules.{rules}
use Rattle.lines.proofs.put_run.Statement.{statement}
use Rattle.lines.proofs.put_run.Tie as tie

returns : tie.Need-returns-then-buf-at
returns c =
    let a = c.args in
    put_refused a.buf.now a.at a.s.now (omega arith)

returns-2 : tie.Need-returns-then-buf-at-2
returns-2 c =
    let a = c.args in
    put_refused a.buf.now a.at a.s.now (omega arith)

returns-3 : tie.Need-returns
returns-3 c =
    let a = c.args in
    put-made (omega arith) refl c.store.ensures

pub put_run_spec : {M : Type 1} → statement M
put_run_spec =
    tie.close
    (tie.spec
    returns
    (λ c. search rules)
    returns-2
    (λ c κs. search rules)
    (λ c. search rules)
    (λ c. search rules)
    returns-3)
