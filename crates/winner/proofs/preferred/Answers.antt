-- The walk over the places under 2, as every number but 1 and 3 goes. Assumes nothing.
use mathlib.Core.Path.{sym}
use borrow.Author.Tests.{ne_eqb}
use Rattle.layout.specs.Words.{table_in}
use Rattle.winner.proofs.Orders.{better-two}
use Rattle.winner.proofs.Laws.{best-as}
use Rattle.winner.proofs.preferred.Goals as goal

pub returns : goal.returns
returns c =
    let a = c.args in
    best-as (table_in a.t.now).entries a.set 2 0 a.algorithm 0 (sym (better-two a.algorithm 0 (ne_eqb a.algorithm 1 c.requires.3) (ne_eqb a.algorithm 3 c.if-algorithm-eq3.false))) c.best_under-2.ensures
