-- `elect_by_circuits` meets its contract: the tag's check, and then the answer for the set of the ready routers, as a plain query has it. Assumes nothing.
use native.Mathlib.Omega.{arith}
use mathlib.Core.Path.{refl, ◌∙◌, sym}
use Rattle.layout.specs.Table.{Table}
use Rattle.layout.specs.Words.{table_in}
use Rattle.settings.specs.Settings.{Settings, settings_in}
use Rattle.circuit_layout.specs.Circuits.{circuits_in}
use Rattle.circuit_ready.specs.Routers.{ready_routers}
use Rattle.answers.proofs.Laws.{set-in-use}
use Rattle.election.specs.Queries.{plain, right_lengths, agreed_on, number_for}
use Rattle.election.proofs.Laws.{promised, elects-10, elects-tag}
use Rattle.circuit_election.specs.Over.{elect_over}
use Rattle.circuit_election.proofs.Laws.{routers_few, not_long}
use Rattle.circuit_election.proofs.elect_by_circuits.Goals as goal

pub returns-then-is_reserved : goal.returns-then-is_reserved
unfolding elect_over
returns-then-is_reserved c =
    let s : Settings = settings_in c.args.settings.now in
    let t : Table = table_in c.args.t.now in
    let routers = circuits_in c.args.circuits.now in
    let w = c.requires.0.sound in
    let e = promised s plain t w c.args.tag (ready_routers routers c.args.tag t.entries)
    (elects-10 s plain t.esi t.entries c.args.tag (ready_routers routers c.args.tag t.entries) (sym c.is_reserved.ensures ∙ c.if-is_reserved.true)) in
    record { answer = e.0; counted = e.1; none_named = e.2; forwarder = e.3; never_long = not_long s t routers c.args.tag w e }

pub place_by_tag-at-requires : goal.place_by_tag-at-requires
place_by_tag-at-requires c =
    let t : Table = table_in c.args.t.now in
    let routers = ready_routers (circuits_in c.args.circuits.now) c.args.tag t.entries in
    (c.requires.0, λ z. omega arith, set-in-use t c.requires.0.sound _ routers _ c.circuit_candidates-set.ensures, c.count-n.ensures.places)

pub returns : goal.returns
unfolding elect_over right_lengths agreed_on number_for
returns c =
    let s : Settings = settings_in c.args.settings.now in
    let t : Table = table_in c.args.t.now in
    let routers = circuits_in c.args.circuits.now in
    let w = c.requires.0.sound in
    let e = elects-tag s plain t w c.args.tag (ready_routers routers c.args.tag t.entries) _ c.in_use-u.ensures
    (sym c.is_reserved.ensures ∙ c.if-is_reserved.false) (routers_few s t routers c.args.tag w) refl _ c.circuit_candidates-set.ensures _ (λ z. omega arith)
    0 _ refl refl c.plain_algorithm-algorithm.ensures c.place_by_tag-at.ensures (c.named.ensures.answer, c.named.ensures.counted) in
    record { answer = e.0; counted = e.1; none_named = e.2; forwarder = e.3; never_long = not_long s t routers c.args.tag w e }
