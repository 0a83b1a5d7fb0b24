-- Preference and DP as one number, under 3 with the preference counted from above. Assumes nothing.
use Rattle.std.proofs.Common.{get_or}
use Rattle.layout.specs.Table.{no_entry}
use Rattle.layout.specs.Words.{table_in}
use Rattle.layout.proofs.Words.{narrow-entry}
use Rattle.winner.proofs.Laws.{score-turned, score-plain}
use Rattle.winner.proofs.score.Goals as goal

pub returns-then-this-eq3 : goal.returns-then-this-eq3
returns-then-this-eq3 g c =
    score-turned g.row.ALGORITHM 0 _ (get_or (table_in c.args.t.now).entries c.args.at no_entry) (narrow-entry c.args.t.now c.requires.0 c.args.at) c.requires.2 c.if-this-eq3.true c.standing_at-standing.ensures.0 c.standing_at-standing.ensures.1

pub returns : goal.returns
returns g c = score-plain g.row.ALGORITHM 0 _ (get_or (table_in c.args.t.now).entries c.args.at no_entry) c.requires.2 c.if-this-eq3.false c.standing_at-standing.ensures.0
