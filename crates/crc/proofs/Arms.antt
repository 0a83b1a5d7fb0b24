-- The arms of a `match` on an octet that has one for each. Assumes nothing.
use Prim.Native.Nat.{ℕ, zero, suc, ◌+◌, ◌-◌, ◌≤◌, ◌<◌}
use native.Mathlib.Omega.{arith}
use mathlib.Core.Path.{◌≡◌, ap, sym}
use Rattle.crc.specs.Crc.{crc_octet}

-- the arm that is taken for j
pub arm : {x j : ℕ} → x ≡ j → crc_octet 0 (j - 256) ≡ crc_octet 0 (x - 256)
arm e = ap (λ (n : ℕ). crc_octet 0 (n - 256)) (sym e)

-- where no arm is taken, x is none of 256 to 255 + n: no octet is left
abbrev Past : ℕ → ℕ → Type 0
Past zero x = Unit {0}
Past (suc n) x = Past n x × (x ≡ 256 + n → ⊥)

past-le : (n x : ℕ) → 256 ≤ x → Past n x → 256 + n ≤ x
past-le zero x l p = l
past-le (suc n) x l p = omega (arith, past-le n x l p.0, p.1)

pub no_arm : (x : ℕ) → 256 ≤ x → x < 512 → Past 256 x → ⊥
no_arm x l h p = omega (arith, past-le 256 x l p)
