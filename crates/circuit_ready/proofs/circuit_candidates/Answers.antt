-- Where not all are ready the set is asked for router by router; where all are, it is that of all places. Assumes nothing.
use mathlib.Core.Path.{◌∙◌}
use Rattle.layout.specs.Words.{table_in}
use Rattle.circuit_layout.specs.Circuits.{circuits_in}
use Rattle.ready.proofs.Laws.{set_all}
use Rattle.circuit_ready.specs.Routers.{ready_routers}
use Rattle.circuit_ready.proofs.Laws.{all-flags, set-circuits}
use Rattle.circuit_ready.proofs.circuit_candidates.Goals as goal
use Rattle.circuit_ready.proofs.circuit_candidates.Goals.{else-ac_df-via-then-ac_df+else-not-all_ready, else-ac_df-via-else-ac_df}

pub returns-then-not-all_ready : goal.returns-then-not-all_ready
returns-then-not-all_ready c = c.circuit_set.ensures ∙ set-circuits (circuits_in c.args.circuits.now) c.args.tag (table_in c.args.t.now).entries _ c.requires.0.sound.addresses c.if-ac_df.true

pub returns : goal.returns
returns c =
    let es = (table_in c.args.t.now).entries in
    let routes = circuits_in c.args.circuits.now in
    let tag = c.args.tag in
    c.below.ensures
    ∙ elim c.else-ac_df.branch [
      | else-ac_df-via-then-ac_df+else-not-all_ready w ↦
          all-flags routes tag es _ c.count-n.ensures (w.all_ready.ensures w.if-not-all_ready.false) ∙ set-circuits routes tag es _ c.requires.0.sound.addresses w.if-ac_df.true
      | else-ac_df-via-else-ac_df w ↦ set_all (ready_routers routes tag es) es _ _ w.if-ac_df.false c.count-n.ensures
    ]
