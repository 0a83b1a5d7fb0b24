-- `announce` meets its contract: the table's own promises upon its part of the words, and that it is the list's call. Assumes nothing.
use native.Mathlib.Omega.{arith}
use mathlib.Core.Path.{refl, sym}
use lib.Seq.{length-take-le}
use borrow.Author.Rules.{rules}
use Rattle.table.specs.Table.{announced}
use Rattle.segment_state.specs.State.{segment_in}
use Rattle.segment_state.proofs.Laws.{length-state}
use Rattle.demand3.specs.Calls.{announce, reply_to, table_left, settings_left}
use Rattle.segment.proofs.Told.{table-told}
use Rattle.segment.proofs.announce.Statement.{statement}
use Rattle.segment.proofs.announce.Tie as tie

returns : tie.Need-returns
unfolding segment_in reply_to table_left settings_left
returns c =
    let told = c.announce.ensures in
    let start = c.before.before.before.before.before.before.before in
    let a = start.args in
    let b = a.s.now in
    let r = table-told b start.requires (announce a.route.now a.communities.now) (announced (segment_in b).table a.route.now a.communities.now) (refl, refl) _ _ _ told.0 told.1.0 in
    (r.0, (r.1, (r.2, (r.3, told.1.1))))

pub announce_spec : {M : Type 1} → statement M
announce_spec =
    tie.close
    (tie.spec
    (λ c. let s = c.before.before.before in omega (arith, length-state s.args.s.now s.requires))
    (λ c. let s = c.before.before.before.before in sym (length-take-le 388 s.args.s.now (omega (arith, length-state s.args.s.now s.requires))))
    (λ c κs. c.requires.table)
    (λ c. search rules)
    returns)
