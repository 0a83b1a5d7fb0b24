-- The place at tag mod n is there, as the set is not empty. Assumes nothing.
use Rattle.layout.specs.Words.{table_in}
use Rattle.winner.proofs.Laws.{elected-nth, elected-best}
use Rattle.winner.proofs.elected_place.Goals as goal

pub returns-then-algorithm-eq0 : goal.returns-then-algorithm-eq0
returns-then-algorithm-eq0 c =
    let h = c.requires.0.sound in
    elected-nth (table_in c.args.t.now).entries h.short h.rising c.args.set c.args.algorithm c.args.tag c.args.digest c.requires.2 c.requires.1 _ _ c.if-algorithm-eq0.true c.requires.3 c.nth.ensures

pub returns : goal.returns
returns c = elected-best (table_in c.args.t.now).entries c.args.set c.args.algorithm c.args.tag c.args.digest c.if-algorithm-eq0.false c.best.ensures
