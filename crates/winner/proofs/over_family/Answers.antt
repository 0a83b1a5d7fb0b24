-- A search finds in the comparison that the greater weight is kept. Assumes nothing.
use Rattle.std.proofs.Common.{ℕ, rules, get_or, ap}
use mathlib.Core.Path.{sym, ◌∙◌}
use Rattle.address.specs.Address.{family_of}
use Rattle.layout.specs.Table.{no_entry}
use Rattle.layout.specs.Words.{table_in}
use Rattle.winner.specs.Steps.{score_of}
use Rattle.winner.proofs.Laws.{Step, score-weight, first-there, walk-on, family-on}
use Rattle.winner.proofs.over_family.Goals as goal

pub family_at-requires : goal.family_at-requires
family_at-requires g c = (c.requires.0, first-there (table_in c.args.t.now).entries c.requires.0.sound.short c.loop-left.invariant.walk.0.within c.loop-left-test.true c.first.ensures)

pub low_word_in-requires : goal.low_word_in-requires
low_word_in-requires g c =
    let es = (table_in c.args.t.now).entries in (
      c.requires.0,
      first-there es c.requires.0.sound.short c.loop-left.invariant.walk.0.within c.loop-left-test.true c.first-next.ensures,
      sym c.if-family_at.true ∙ c.family_at.ensures ∙ ap (λ (p : ℕ). family_of (get_or es p no_entry).address) (c.first.ensures ∙ sym c.first-next.ensures),
    )

pub loop-left-preserved : goal.loop-left-preserved
loop-left-preserved g c =
    let b = c.args.t.now in
    let h = c.requires.0 in
    let es = (table_in b).entries in
    let d = c.args.digest in
    let v = c.loop-left.invariant in
    let n = c.loop-left-test.true in
    let step : Step c.loop-left.left c.first-next.result c.rest-left.result = record { some = n; first = c.first-next.ensures; rest = c.rest-left.ensures.places; less = c.rest-left.ensures.less n } in
    let told = score-weight d _ _ (get_or es c.first-next.result no_entry) c.low_word_in.ensures c.doubled_weight-doubled.ensures.answer in
    record {
      walk = walk-on es h.sound.short step v.walk.0.within (score_of 1 d) v.walk told (search rules);
      past = family-on b h v.walk.0.within g.row.FAMILY (λ j. (c.type_inv.t j).fits) step v.past;
    }
