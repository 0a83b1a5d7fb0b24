-- `elect` meets its contract: the election's own promises upon both parts of the words, that with none set it is document 01's, and that it is the list's reply. Assumes
-- nothing.
use native.Mathlib.Omega.{arith}
use mathlib.Core.Path.{ap, ◌∙◌, sym}
use lib.Seq.{length-take-le}
use borrow.Author.Rules.{rules}
use Rattle.ready.specs.Ready.{ready_in}
use Rattle.settings.specs.Settings.{Settings}
use Rattle.segment_state.specs.State.{segment_in}
use Rattle.segment_state.proofs.Laws.{length-state, settings-part, valid-settings-part}
use Rattle.election.specs.Queries.{plain, elect_with}
use Rattle.election.proofs.Laws.{elect-none}
use Rattle.one_forwarder.proofs.OneForwarder.{once}
use Rattle.demand3.proofs.Calls.{elect-replies}
use Rattle.demand3.proofs.Demand3.{elect-follows}
use Rattle.segment.proofs.elect.Statement.{statement}
use Rattle.segment.proofs.elect.Tie as tie

returns : tie.Need-returns
unfolding segment_in
returns c =
    let start = c in
    let a = start.args in
    let told = rw (settings-part a.s.now start.requires) at c.elect.ensures in
    let s = segment_in a.s.now in
    let ready = ready_in a.ready.now in
    let call = elect-replies s plain a.tag ready told.0 in
    (told.0, (told.1.0, (told.1.1.0, (told.1.1.1, (once s start.requires.table.sound plain a.tag ready told.0, ((λ e. told.0 ∙ ap (λ (g : Settings). elect_with g plain s.table.esi s.table.entries a.tag ready) e ∙ elect-none s.table.esi s.table.entries a.tag ready), (call, elect-follows s plain a.tag ready call)))))))

pub elect_spec : {M : Type 1} → statement M
elect_spec =
    tie.close
    (tie.spec
    (λ c. let s = c in sym (length-take-le 388 s.args.s.now (omega (arith, length-state s.args.s.now s.requires))))
    (λ c. let s = c in omega (arith, length-state s.args.s.now s.requires))
    (λ c. let s = c in omega (arith, length-state s.args.s.now s.requires))
    (λ c. search rules)
    (λ c κs. let s = c in (s.requires.table, valid-settings-part s.args.s.now s.requires))
    returns)
