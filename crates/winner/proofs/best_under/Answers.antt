-- A search finds in the comparison that the greater score is kept. Assumes nothing.
use Rattle.std.proofs.Common.{rules}
use Rattle.layout.specs.Words.{table_in}
use Rattle.layout.proofs.Words.{narrow-entries}
use Rattle.winner.specs.Steps.{score_of}
use Rattle.winner.proofs.Laws.{Step, first-there, walk_begins, walk-on, walk_ends}
use Rattle.winner.proofs.best_under.Goals as goal

pub score-top-requires : goal.score-top-requires
score-top-requires g c = (c.requires.0, first-there (table_in c.args.t.now).entries c.requires.0.sound.short c.requires.2 c.requires.1 c.first-at.ensures, c.requires.3)

pub loop-left-init : goal.loop-left-init
loop-left-init g c =
    walk_begins (table_in c.args.t.now).entries c.requires.0.sound.short (record { some = c.requires.1; first = c.first-at.ensures; rest = c.rest-left.ensures.places; less = c.rest-left.ensures.less c.requires.1 }) c.requires.2 (score_of g.row.ALGORITHM 0) c.score-top.ensures

pub score-s-requires : goal.score-s-requires
score-s-requires g c =
    (c.requires.0, first-there (table_in c.args.t.now).entries c.requires.0.sound.short c.loop-left.invariant.0.within c.loop-left-test.true c.first-next.ensures, c.requires.3)

pub loop-left-preserved : goal.loop-left-preserved
loop-left-preserved g c =
    let v = c.loop-left.invariant in
    let n = c.loop-left-test.true in
    let step : Step c.loop-left.left c.first-next.result c.rest-left-in-loop-left.result =
    record { some = n; first = c.first-next.ensures; rest = c.rest-left-in-loop-left.ensures.places; less = c.rest-left-in-loop-left.ensures.less n } in
    walk-on (table_in c.args.t.now).entries c.requires.0.sound.short step v.0.within (score_of g.row.ALGORITHM 0) v c.score-s.ensures (search rules)

pub returns : goal.returns
returns g c =
    let b = c.args.t.now in
    let h = c.requires.0 in
    walk_ends (table_in b).entries h.sound.short h.sound.rising (narrow-entries b h) g.row.ALGORITHM 0 c.args.set c.requires.2 c.loop-left.invariant c.loop-left-test.false
