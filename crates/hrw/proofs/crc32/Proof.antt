-- `crc32` meets its contract: whole words are gone over from all ones, then the octets that are left, and the register is inverted. Assumes nothing.
use Prim.Native.Nat.{ℕ, ◌-◌, ◌*◌, ◌/◌}
use mathlib.Core.Path.{ap, ◌∙◌}
use borrow.Author.Rules.{rules}
use lib.Bits.{bit_xor}
use lib.ListN.{length, take, drop}
use Rattle.crc.specs.Crc.{all_ones, crc_over, crc32_of}
use Rattle.hrw.proofs.Laws.{crc_over-slices}
use Rattle.hrw.proofs.crc32.Statement.{statement}
use Rattle.hrw.proofs.crc32.Tie as tie

returns : tie.Need-returns
unfolding crc32_of
returns c =
    let words = c.before.before in
    let s = words.args.s.now in
    let whole = length s / 4 * 4 in
    ap (λ (n : ℕ). bit_xor n all_ones) (c.crc_octets.ensures ∙ ap (λ (n : ℕ). crc_over n (take (length s - whole) (drop whole s))) words.crc_words-words.ensures ∙ crc_over-slices all_ones s whole)

pub crc32_spec : {M : Type 1} → statement M
crc32_spec =
    tie.close
    (tie.spec
    (λ c. search rules)
    (λ c. search rules)
    (λ c. search rules)
    (λ c. search rules)
    (λ c κs. search rules)
    (λ c. search rules)
    (λ c. search rules)
    (λ c. search rules)
    (λ c κs. search rules)
    returns)
