-- Two addresses have the same weight exactly if they agree in the low 31 bits: each step of the formula can be undone in those bits. The multiplier is odd, so
-- it has an inverse modulo 2^31, and exclusive or with the digest undoes itself.
-- Assumes nothing.
use Prim.Native.Nat.{ℕ, ◌+◌, ◌*◌, ◌%◌, ◌^◌}
use native.Mathlib.Omega.{arith}
use mathlib.Core.Path.{◌≡◌, ap, ◌∙◌, sym}
use lib.Bits.{bit_xor, xor_mod, xor_self, xor_zero_r}
use Rattle.hrw.specs.Weight.{weight_of}
use Rattle.hrw.specs.Ties.{TieExactly}
use Rattle.hrw.proofs.Xor.{xor_assoc}
use Rattle.hrw.proofs.Laws.{step, linear-mod, weight_of-low}

-- 1857678181 is the inverse of 1103515245 modulo 2^31, and 2088216195 takes back what becomes of 12345
unstep : (n : ℕ) → n % 2 ^ 31 ≡ (1857678181 * step n + 2088216195) % 2 ^ 31
unstep n = omega arith

step-undone : (m n : ℕ) → step m % 2 ^ 31 ≡ step n % 2 ^ 31 → m % 2 ^ 31 ≡ n % 2 ^ 31
step-undone m n e =
    unstep m
    ∙ linear-mod 1857678181 2088216195 (2 ^ 31) (step m)
    ∙ ap (λ (x : ℕ). (1857678181 * x + 2088216195) % 2 ^ 31) e
    ∙ sym (unstep n ∙ linear-mod 1857678181 2088216195 (2 ^ 31) (step n))

xor-back : (n d : ℕ) → bit_xor (bit_xor n d) d ≡ n
xor-back n d = xor_assoc n d d ∙ ap (bit_xor n) (xor_self d) ∙ xor_zero_r n

-- the low bits of n, from those of n xor d
unxor : (n d k : ℕ) → n % 2 ^ k ≡ bit_xor (bit_xor n d % 2 ^ k) (d % 2 ^ k)
unxor n d k = ap (λ (x : ℕ). x % 2 ^ k) (sym (xor-back n d)) ∙ xor_mod (bit_xor n d) d k

xor-undone : (m n d k : ℕ) → bit_xor m d % 2 ^ k ≡ bit_xor n d % 2 ^ k → m % 2 ^ k ≡ n % 2 ^ k
xor-undone m n d k e = unxor m d k ∙ ap (λ (x : ℕ). bit_xor x (d % 2 ^ k)) e ∙ sym (unxor n d k)

tied : (a b d : ℕ) → weight_of a d ≡ weight_of b d → a % 2 ^ 31 ≡ b % 2 ^ 31
unfolding weight_of
tied a b d e = step-undone a b (xor-undone (step a) (step b) d 31 (step-undone (bit_xor (step a) d) (bit_xor (step b) d) e))

tying : (a b d : ℕ) → a % 2 ^ 31 ≡ b % 2 ^ 31 → weight_of a d ≡ weight_of b d
tying a b d e = weight_of-low a d ∙ ap (λ (x : ℕ). weight_of x d) e ∙ sym (weight_of-low b d)

pub tie-exactly : (a d r : ℕ) → r ≡ weight_of a d → TieExactly a d r
tie-exactly a d r h b = (λ e. tied a b d (sym h ∙ e), λ e. h ∙ tying a b d e)
