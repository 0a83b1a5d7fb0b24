-- A score has 17 bits, so that a rank fits; the greater rank is kept. Assumes nothing.
use Rattle.std.proofs.Common.{◌≡◌, ◌+◌, ◌-◌, ◌*◌, ◌<◌, ℕ, List, get_or, ap, arith, rules}
use mathlib.Core.Path.{sym, ◌∙◌}
use Rattle.layout.specs.Table.{no_entry}
use Rattle.layout.specs.Words.{table_in, Valid}
use Rattle.layout.proofs.Words.{narrow-entry}
use Rattle.places.specs.Places.{stretch}
use Rattle.place_runs.proofs.Runs.{stretch-on, stretch-over}
use Rattle.winner.specs.Steps.{score_of, top_rank}
use Rattle.winner.proofs.Laws.{score-less}
use Rattle.winner.proofs.Runs.{rank-on, rank-over}
use Rattle.winner.proofs.top_of_run.Goals as goal

small : (b : List ℕ) → Valid b → (a : ℕ) → (a ≡ 1 → ⊥) → (i : ℕ) → score_of a 0 (get_or (table_in b).entries i no_entry) < 131072
small b h a n i = score-less a 0 (get_or (table_in b).entries i no_entry) (narrow-entry b h i) n

pub overflow_mul-rank : goal.overflow_mul-rank
overflow_mul-rank g c = omega (arith, small c.args.t.now c.requires.0 g.row.ALGORITHM c.requires.2 c.loop-i.i, c.score.ensures)

pub overflow_add-rank : goal.overflow_add-rank
overflow_add-rank g c = omega (arith, small c.args.t.now c.requires.0 g.row.ALGORITHM c.requires.2 c.loop-i.i, c.score.ensures)

pub loop-i-preserved : goal.loop-i-preserved
loop-i-preserved g c =
    let es = (table_in c.args.t.now).entries in
    let S = score_of g.row.ALGORITHM 0 in
    let i = c.loop-i.i in
    let e = c.args.end in
    rank-on S es c.loop-i.top i (stretch (i + 1) (e - (i + 1))) (ap (λ (s : ℕ). s * 64 + (63 - i)) c.score.ensures) (search rules)
    ∙ ap (λ (l : List ℕ). top_rank S es c.loop-i.top l) (sym (stretch-on i e c.loop-i-test.true)) ∙ c.loop-i.invariant

pub returns : goal.returns
returns g c = rank-over (score_of g.row.ALGORITHM 0) (table_in c.args.t.now).entries c.loop-i.top (stretch-over c.loop-i.i c.args.end c.loop-i-test.false) ∙ c.loop-i.invariant
