-- `take_block` meets its contract: records are taken, and what they leave is kept. Assumes nothing.
use native.Mathlib.Omega.{arith}
use mathlib.Core.Path.{sym}
use lib.Seq.{length-take-le}
use Rattle.blocks.proofs.Blocks.{block-taken}
use borrow.Author.Rules.{rules}
use Rattle.blocks.proofs.take_block.Statement.{statement}
use Rattle.blocks.proofs.take_block.Tie as tie

slice-aggregate-process : tie.Need-slice_bounds-process-end-2
slice-aggregate-process c = sym (length-take-le _ _ (omega (arith, c.min-n.ensures)))

returns : tie.Need-returns
returns c =
    let k = c.before.before.before in
    let p = k.before.before.before.before.before.before in
    let l = p.before.before.before.before in
    let a = l.args in
    let known = l.slice_known-2-1.given in
    let ran = p.process-p.ensures in
    (block-taken a.filled c.min-n.result (λ i. omega (arith, known i)) c.min-n.ensures ran.0 ran.1.0 k.keep-left.ensures.0 k.keep-left.ensures.1 c.next_in-next.ensures, ran.1.1)

pub take_block_spec : {M : Type 1} → statement M
take_block_spec =
    tie.close
    (tie.spec
    (λ c κs. search rules)
    (λ c. search rules)
    slice-aggregate-process
    (λ c κs. search rules)
    (λ c κs. search rules)
    (λ c. search rules)
    (λ c κs. search rules)
    (λ c. search rules)
    (λ c. search rules)
    (λ c. search rules)
    returns)
