-- Laws for the steps of the code: a number below 256, digits spelled from the end of a text, an address by its octets. Assumes nothing.
use Prim.Native.Nat.{ℕ, zero, suc, ◌+◌, ◌-◌, ◌*◌, ◌/◌, ◌%◌, ◌^◌, ◌≤◌, ◌<◌}
use native.Mathlib.Nat.{not-suc-le-zero, pow-suc, le_refl}
use native.Mathlib.Omega.{arith}
use mathlib.Core.Path.{◌≡◌, refl, ap, ap₂, ◌∙◌, sym}
use mathlib.Core.List.{List, [], ◌∷◌, ◌++◌, append_assoc}
use lib.ListN.{length, get_or, set, take, drop, length-set}
use lib.Seq.{take-suc-set, drop-cons, get_or-set_same, drop-set-lt}
use Rattle.octets.specs.Octets.{hex_digit}
use Rattle.lines.specs.Lines.{digit, decimal, dotted, hex}
use Rattle.lines.proofs.Laws.{decimal-small, decimal-more, decimal-two, hex-next}

-- ---- a number below 256, by its three digits

pub small_one : (n : ℕ) → n < 10 → decimal n ≡ digit (n % 10) ∷ []
small_one n h = decimal-small n h ∙ ap (λ (d : ℕ). digit d ∷ []) (omega arith)

pub small-two : (n : ℕ) → 10 ≤ n → n < 100 → decimal n ≡ digit (n / 10 % 10) ∷ digit (n % 10) ∷ []
small-two n h l = decimal-two n h l ∙ ap (λ (d : ℕ). digit d ∷ digit (n % 10) ∷ []) (omega arith)

-- ---- digits, from the last to the first

-- an octet stored just before the part that starts at i
drop-set : (l : List ℕ) (i x : ℕ) → 0 < i → i ≤ length l → drop (i - 1) (set l (i - 1) x) ≡ x ∷ drop i l
drop-set l zero x p h = absurd (not-suc-le-zero p)
drop-set l (suc i) x p h =
    let e : suc i - 1 ≡ i = omega arith in
    rw (e, drop-cons (set l i x) i 0 (simp length-set h), get_or-set_same l i x 0 h, drop-set-lt (suc i) l i x (le_refl (suc i)))

-- a digit more: the number that is left is a tenth
pub spell-more : (l : List ℕ) (i n : ℕ) → 0 < i → i ≤ length l → 9 < n → decimal (n / 10) ++ drop (i - 1) (set l (i - 1) (digit (n % 10))) ≡ decimal n ++ drop i l
spell-more l i n p h k = rw (drop-set l i (digit (n % 10)) p h, decimal-more n k, append_assoc)

-- the first digit
pub spell-first : (l : List ℕ) (i n : ℕ) → 0 < i → i ≤ length l → n < 10 → drop (i - 1) (set l (i - 1) (digit n)) ≡ decimal n ++ drop i l
spell-first l i n p h k = rw (drop-set l i (digit n) p h, decimal-small n k)

-- there is room for another digit
pub spell-room : (i n : ℕ) → 9 < n → n < 10 ^ i → (0 < i - 1) × (n / 10 < 10 ^ (i - 1))
spell-room zero n h k = absurd (omega arith)
spell-room (suc zero) n h k = absurd (omega arith)
spell-room (suc (suc i)) n h k =
    let e : suc (suc i) - 1 ≡ suc i = omega arith in
    rw e (omega arith, omega (arith, pow-suc 10 (suc i)))

-- ---- two digits more of octets in hexadecimal

pub hex-turn : (t s : List ℕ) (i x y : ℕ) → i < length s → 2 * i + 2 ≤ length t → take (2 * i) t ≡ take (2 * i) (hex s) → x ≡ hex_digit (get_or s i 0 / 16) → y ≡ hex_digit (get_or s i 0)
    → take (2 * (i + 1)) (set (set t (2 * i) x) (2 * i + 1) y) ≡ take (2 * (i + 1)) (hex s)
hex-turn t s i x y h l q a b =
    let n : 2 * (i + 1) ≡ suc (suc (2 * i)) = omega arith in
    let m : 2 * i + 1 ≡ suc (2 * i) = omega arith in
    ap₂ (λ (j k : ℕ). take j (set (set t (2 * i) x) k y)) n m
    ∙ take-suc-set (set t (2 * i) x) (suc (2 * i)) y (simp length-set (omega arith))
    ∙ ap (λ (p : List ℕ). p ++ y ∷ []) (take-suc-set t (2 * i) x (omega arith))
    ∙ append_assoc (take (2 * i) t) (x ∷ []) (y ∷ [])
    ∙ rw (q, a, b) (sym (hex-next s i h))

-- ---- an address, by its four octets

pub dotted-parts : (a b c d : ℕ) → decimal a ++ (46 ∷ decimal b ++ (46 ∷ decimal c ++ 46 ∷ decimal d)) ≡ dotted (a ∷ b ∷ c ∷ d ∷ [])
unfolding dotted
dotted-parts a b c d = refl
