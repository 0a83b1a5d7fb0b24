-- The walk by rank under 3, or under 2 as every other number but 1 goes, where the digest plays no part. Assumes nothing.
use Rattle.std.proofs.Common.{ℕ, refl, ap, arith}
use mathlib.Core.Path.{sym, ◌∙◌}
use borrow.Author.Tests.{ne_eqb}
use Rattle.layout.specs.Words.{table_in}
use Rattle.winner.specs.Winner.{better}
use Rattle.winner.proofs.Orders.{better-any, better-two}
use Rattle.winner.proofs.Laws.{best-as}
use Rattle.winner.proofs.by_runs.Goals as goal

pub returns-in-3 : goal.returns-in-3
returns-in-3 c =
    let a = c.args in
    best-as (table_in a.t.now).entries a.set 3 0 a.algorithm a.digest (better-any 3 0 a.digest refl ∙ ap (λ (x : ℕ). better x a.digest) (sym c.in-3.is)) c.best_by_runs.ensures

pub returns-in_default : goal.returns-in_default
returns-in_default c =
    let a = c.args in
    let n = a.algorithm in
    best-as (table_in a.t.now).entries a.set 2 0 n a.digest
    (better-any 2 0 a.digest refl ∙ sym (better-two n a.digest (ne_eqb n 1 (λ e. omega arith)) (ne_eqb n 3 (λ e. omega arith)))) c.best_by_runs-in_default.ensures
