-- Where `compare` answers: the words that it takes decide. The check proves the rest. Assumes nothing.
use Rattle.std.proofs.Common.{arith, ◌∙◌}
use Rattle.rows.proofs.Compared.{agreed, pair-next, pair-told, turn_last, turn_end}
use Rattle.rows.proofs.compare.Goals as goal

pub returns-then-x-y : goal.returns-then-x-y
returns-then-x-y c =
    c.cmp.ensures
    ∙ pair-told (agreed c.requires (λ j. (c.type_inv.s j).fits) (λ j. (c.type_inv.key j).fits) c.loop-i.invariant.1) (omega arith) c.pair_at-x.ensures c.pair_at-y.ensures c.turned.ensures c.turned-then-x-y.ensures c.if-x-y.true

pub loop-i-preserved : goal.loop-i-preserved
loop-i-preserved c = (omega arith, (pair-next (agreed c.requires (λ j. (c.type_inv.s j).fits) (λ j. (c.type_inv.key j).fits) c.loop-i.invariant.1) (omega arith) c.pair_at-x.ensures c.pair_at-y.ensures c.if-x-y.false).same)

pub returns-then-i-k : goal.returns-then-i-k
returns-then-i-k c = c.cmp-then-i-k.ensures ∙ turn_last (agreed c.requires (λ j. (c.type_inv.s j).fits) (λ j. (c.type_inv.key j).fits) c.loop-i.invariant.1) (omega arith) (omega arith)

pub returns : goal.returns
returns c = turn_end (agreed c.requires (λ j. (c.type_inv.s j).fits) (λ j. (c.type_inv.key j).fits) c.loop-i.invariant.1) (omega arith)
