-- `elect_source_group` meets its contract: the election's own promises for a flow (S,G) upon both parts of the words, and that it is the list's reply. Assumes nothing.
use native.Mathlib.Omega.{arith}
use mathlib.Core.Path.{sym}
use lib.Seq.{length-take-le}
use borrow.Author.Rules.{rules}
use Rattle.ready.specs.Ready.{ready_in}
use Rattle.segment_state.specs.State.{segment_in}
use Rattle.segment_state.proofs.Laws.{length-state, settings-part, valid-settings-part}
use Rattle.election.specs.Queries.{by_source_group}
use Rattle.demand3.proofs.Calls.{elect-replies}
use Rattle.demand3.proofs.Demand3.{elect-follows}
use Rattle.flow_calls.proofs.elect_source_group.Statement.{statement}
use Rattle.flow_calls.proofs.elect_source_group.Tie as tie

returns : tie.Need-returns
unfolding segment_in
returns c =
    let start = c in
    let a = start.args in
    let told = rw (settings-part a.s.now start.requires) at c.elect_source_group.ensures in
    let s = segment_in a.s.now in
    let ready = ready_in a.ready.now in
    let q = by_source_group a.source.now a.group.now in
    let call = elect-replies s q a.tag ready told.0 in
    (told.0, (told.1, (told.2, (told.3, (call, elect-follows s q a.tag ready call)))))

pub elect_source_group_spec : {M : Type 1} → statement M
elect_source_group_spec =
    tie.close
    (tie.spec
    (λ c. let s = c in sym (length-take-le 388 s.args.s.now (omega (arith, length-state s.args.s.now s.requires))))
    (λ c. let s = c in omega (arith, length-state s.args.s.now s.requires))
    (λ c. let s = c in omega (arith, length-state s.args.s.now s.requires))
    (λ c. search rules)
    (λ c κs. let s = c in (s.requires.table, valid-settings-part s.args.s.now s.requires))
    returns)
