-- A word more takes the register four octets on; at the end none is left.
use Rattle.std.proofs.Common.{ℕ, ◌≡◌, ◌+◌, ◌*◌, ◌<◌, ◌≤◌, length, drop, ap, refl, sym, ◌∙◌, arith}
use Rattle.lists.proofs.Lists.{every-place}
use lib.Bits.{bit_xor}
use Rattle.crc.specs.Crc.{crc_bits, crc_over}
use Rattle.octet_words.proofs.Laws.{low_four_at}
use Rattle.hrw.proofs.Laws.{crc_over-four, crc_over-end}
use Rattle.hrw.proofs.crc_words.Goals as goal

pub loop-i-init : goal.loop-i-init
loop-i-init c = refl

pub loop-i-preserved : goal.loop-i-preserved
loop-i-preserved c =
    let s = c.args.s.now in
    let l = c.loop-i in
    let octets = every-place (λ (x : ℕ). x < 256) s 0 (λ j _. (c.type_inv.s j).fits) in
    let h : 4 * l.i + 4 ≤ length s = omega arith in
    let next : 4 * (l.i + 1) ≡ 4 * l.i + 4 = omega arith in
    let word = c.crc_word-r.ensures ∙ ap (λ (w : ℕ). crc_bits 32 (bit_xor l.r w)) (c.from_le_bytes-word.ensures ∙ sym (low_four_at (4 * l.i) s h)) in
    rw next (ap (λ (r : ℕ). crc_over r (drop (4 * l.i + 4) s)) word ∙ sym (crc_over-four l.r s (4 * l.i) octets h) ∙ l.invariant)

pub returns : goal.returns
returns c =
    let l = c.loop-i in
    sym (crc_over-end l.r c.args.s.now (4 * l.i) (omega (arith, c.requires))) ∙ l.invariant
