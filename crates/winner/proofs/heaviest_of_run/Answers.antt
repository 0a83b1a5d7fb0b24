-- A search finds in the comparison that the greater weight is kept. Assumes nothing.
use Rattle.std.proofs.Common.{◌+◌, ◌-◌, ℕ, List, get_or, ap, arith, rules}
use mathlib.Core.Path.{sym, ◌∙◌}
use Rattle.layout.specs.Table.{no_entry}
use Rattle.layout.specs.Words.{table_in}
use Rattle.places.specs.Places.{stretch}
use Rattle.place_runs.proofs.Runs.{stretch-on}
use Rattle.winner.specs.Steps.{score_of, ending_at}
use Rattle.winner.proofs.Laws.{score-weight, keep-on}
use Rattle.winner.proofs.Runs.{family-next}
use Rattle.winner.proofs.heaviest_of_run.Goals as goal

pub loop-i-preserved : goal.loop-i-preserved
loop-i-preserved g c =
    let h = c.requires.0 in
    let b = c.args.t.now in
    let es = (table_in b).entries in
    let d = c.args.digest in
    let S = score_of 1 d in
    let i = c.loop-i.i in
    let e = c.args.end in
    let at = c.loop-i.at in
    let v = c.loop-i.invariant in
    let n = c.loop-i-test.true in
    let told = score-weight d _ _ (get_or es i no_entry) c.low_word_in.ensures c.doubled_weight-twice.ensures.answer in
    record {
      walk = keep-on S es at i (stretch (i + 1) (e - (i + 1))) (v.walk.0, ap (λ (l : List ℕ). ending_at S es at l) (sym (stretch-on i e n)) ∙ v.walk.1) (omega (arith, c.requires.1)) told (search rules);
      past = family-next b h i e c.requires.1 g.row.FAMILY (λ j. (c.type_inv.t j).fits) n v.past;
    }
