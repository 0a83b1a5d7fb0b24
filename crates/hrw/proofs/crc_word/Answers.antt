-- An octet more is eight bits more; at the end they are 32.
use Rattle.std.proofs.Common.{ℕ, ◌≡◌, ◌+◌, ◌*◌, ap, refl, sym, ◌∙◌, arith}
use Rattle.crc.specs.Crc.{crc_bits}
use Rattle.hrw.proofs.Laws.{crc_bits-add}
use Rattle.hrw.proofs.crc_word.Goals as goal

pub loop-init : goal.loop-init
unfolding crc_bits
loop-init c = refl

pub loop-preserved : goal.loop-preserved
loop-preserved c =
    let mixed = c.args.mixed in
    let i = c.loop.counter in
    let next : 8 * i + 8 ≡ 8 * (i + 1) = omega arith in
    c.crc_step-r.ensures ∙ ap (crc_bits 8) c.loop.invariant ∙ sym (crc_bits-add (8 * i) 8 mixed) ∙ ap (λ (n : ℕ). crc_bits n mixed) next

pub returns : goal.returns
returns c =
    let all : 8 * c.loop.counter ≡ 32 = omega arith in
    c.loop.invariant ∙ ap (λ (n : ℕ). crc_bits n c.args.mixed) all
