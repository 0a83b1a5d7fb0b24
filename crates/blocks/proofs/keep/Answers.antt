-- What is kept comes to the front, an octet at a time; where nothing is, the block stays as it is.
use Rattle.std.proofs.Common.{refl, sym, ap, ◌∙◌, length, arith}
use lib.ListN.{length-set}
use Rattle.blocks.proofs.Blocks.{length-kept, kept-none, kept_next, kept-all, stored-none}
use Rattle.blocks.proofs.keep.Goals as goal

pub returns-then-end-used : goal.returns-then-end-used
returns-then-end-used c =
    let a = c.args in
    let k = kept-none a.block.now a.used a.filled (omega (arith, c.min-end.ensures)) in
    record { count = ap length (sym k); moved = sym (stored-none k) }

pub loop-i-init : goal.loop-i-init
loop-i-init c = (refl, refl)

pub overflow_add-block : goal.overflow_add-block
overflow_add-block c = omega (arith, c.min-end.ensures)

pub bounds-block-used : goal.bounds-block-used
bounds-block-used c = omega (arith, c.min-end.ensures, c.loop-i.invariant.0)

pub bounds-block-i : goal.bounds-block-i
bounds-block-i c = omega (arith, c.min-end.ensures, c.loop-i.invariant.0)

pub loop-i-preserved : goal.loop-i-preserved
loop-i-preserved c =
    let a = c.args in
    let l = c.loop-i in
    (length-set l.block _ _ ∙ l.invariant.0, rw l.invariant.1 (kept_next a.block.now a.used a.filled l.i (omega (arith, c.min-end.ensures, length-kept a.block.now a.used a.filled))))

pub returns : goal.returns
returns c =
    let a = c.args in
    let l = c.loop-i in
    let h = length-kept a.block.now a.used a.filled in
    record { count = omega (arith, c.min-end.ensures, h); moved = l.invariant.1 ∙ kept-all a.block.now a.used a.filled l.i (omega (arith, c.min-end.ensures, h)) }
