-- Each part of a digest takes the register from before it to behind it, the octets of S and of G and then the words at the end, one word after the other.
use Rattle.std.proofs.Common.{ℕ, ◌<◌, ap, refl, sym, ◌∙◌, rules, arith}
use Rattle.lists.specs.Lists.{Every}
use Rattle.lists.proofs.Lists.{every-place}
use lib.Bits.{bit_xor}
use Rattle.crc.specs.Crc.{crc_bits}
use Rattle.hrw.proofs.Words.{words-on, words-end, register_at, octets-part, last-part, at-the-end}
use Rattle.hrw.proofs.flow_digest.Goals as goal

pub loop-part-init : goal.loop-part-init
unfolding register_at
loop-part-init c = (refl, refl)

pub loop-i-init : goal.loop-i-init
loop-i-init c =
    let os : Every (λ o. o < 256) c.args.source.now = every-place (λ (x : ℕ). x < 256) c.args.source.now 0 (λ j _. (c.type_inv.source j).fits) in
    let og : Every (λ o. o < 256) c.args.group.now = every-place (λ (x : ℕ). x < 256) c.args.group.now 0 (λ j _. (c.type_inv.group j).fits) in
    grind (arith, octets-part, last-part)

pub loop-i-preserved : goal.loop-i-preserved
loop-i-preserved c =
    let word = c.crc_word-r.ensures ∙ ap (λ (w : ℕ). crc_bits 32 (bit_xor c.loop-i.r w)) c.part_word.ensures in
    words-on c.loop-i.r c.loop-i.i _ (omega (arith, c.part_len-n.ensures)) word ∙ c.loop-i.invariant

pub loop-part-preserved : goal.loop-part-preserved
loop-part-preserved c =
    (search rules, sym (words-end c.loop-i.r c.loop-i.i _ (omega (arith, c.part_len-n.ensures))) ∙ c.loop-i.invariant)

pub returns : goal.returns
returns c = at-the-end c.loop-part.part c.loop-part.r c.args.source.now c.args.group.now c.args.tag c.args.esi (omega arith) c.loop-part.invariant.1
