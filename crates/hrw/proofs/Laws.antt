-- Laws of `specs/Crc.antt` and `specs/Weight.antt`: the CRC an octet at a time, over runs of octets and by words of four, the octets of a digest, and the low 31 bits that decide a weight.
-- Assumes nothing.
use Prim.Native.Nat.{ℕ, zero, suc, ◌+◌, ◌-◌, ◌*◌, ◌/◌, ◌%◌, ◌^◌, ◌≤◌, ◌<◌}
use native.Mathlib.Nat.{le_of_eq, sub-zero, zero-add, suc-add, mul-one, mul-add, mul_assoc, add_assoc, pow-suc, div-add-mod', mod-lt, mul-add-mod_self_right}
use native.Mathlib.Numerals.{add-one}
use native.Mathlib.Omega.{arith}
use mathlib.Core.Path.{◌≡◌, refl, ap, ◌∙◌, sym}
use mathlib.Core.Bool.{cond}
use mathlib.Core.List.{List, [], ◌∷◌, ◌++◌}
use lib.ListN.{length, get_or, take, drop, take-append-drop, length-drop, drop_of_length-le}
use lib.Seq.{take_all, drop-cons, drop-drop, length-take-le}
use lib.Arith.{lt-one}
use lib.Pow.{pow_pos, split}
use lib.Dec.{eqb}
use lib.Bits.{bit_xor, differ, xor_comm, xor_zero_r, xor_lt, xor_shifted, xor_mod, shifted_half, shifted_even}
use Rattle.lists.specs.Lists.{Every}
use Rattle.lists.proofs.Lists.{every-place, every_take, every_drop}
use Rattle.octets.specs.Octets.{octets_of}
use Rattle.octets.proofs.Laws.{length-octets, octets-octets}
use Rattle.octet_words.specs.Words.{low_first, low_octets}
use Rattle.octet_words.proofs.Laws.{low-back}
use Rattle.crc.specs.Crc.{polynomial, all_ones, crc_bit, crc_bits, crc_octet, crc_over, crc32_of}
use Rattle.hrw.specs.Weight.{digest_over, flow_digest_of, weight_of}
use Rattle.hrw.proofs.Xor.{bit, xor-half, xor-odd, xor_assoc, xor-xor}

-- ---- an octet at a time

-- the polynomial is taken where the low bit is set, so for a xor b where it is taken for one of the two
taken-xor : (x y : ℕ) → x < 2 → y < 2 → cond (eqb (differ x y) 1) polynomial 0 ≡ bit_xor (cond (eqb x 1) polynomial 0) (cond (eqb y 1) polynomial 0)
taken-xor zero y hx hy = refl
taken-xor (suc zero) zero hx hy = refl
taken-xor (suc zero) (suc zero) hx hy = refl
taken-xor (suc zero) (suc (suc y)) hx hy = absurd (omega arith)
taken-xor (suc (suc x)) y hx hy = absurd (omega arith)

crc_bit-xor : (a b : ℕ) → crc_bit (bit_xor a b) ≡ bit_xor (crc_bit a) (crc_bit b)
unfolding crc_bit
crc_bit-xor a b =
    rw (xor-half a b, xor-odd a b, taken-xor (a % 2) (b % 2) (bit a) (bit b))
    (xor-xor (cond (eqb (a % 2) 1) polynomial 0) (cond (eqb (b % 2) 1) polynomial 0) (a / 2) (b / 2))

-- the CRC is linear over exclusive or
pub crc_bits-xor : (n a b : ℕ) → crc_bits n (bit_xor a b) ≡ bit_xor (crc_bits n a) (crc_bits n b)
unfolding crc_bits
crc_bits-xor zero a b = refl
crc_bits-xor (suc n) a b = ap (crc_bits n) (crc_bit-xor a b) ∙ crc_bits-xor n (crc_bit a) (crc_bit b)

-- zeros that are shifted out leave no trace
pub crc_bits-shift : (n h : ℕ) → crc_bits n (h * 2 ^ n) ≡ h
unfolding crc_bits crc_bit
crc_bits-shift zero h = mul-one h
crc_bits-shift (suc n) h =
    rw (shifted_half h n, shifted_even h n) (crc_bits-shift n h)

-- so the high and the low bits of a register may be taken apart
pub crc_bits-parts : (n k c : ℕ) → crc_bits n c ≡ bit_xor (crc_bits n (c / 2 ^ k * 2 ^ k)) (crc_bits n (c % 2 ^ k))
crc_bits-parts n k c =
    ap (crc_bits n) (sym (xor_shifted (c / 2 ^ k) k (c % 2 ^ k) (mod-lt c (pow_pos k)) ∙ split c k))
    ∙ crc_bits-xor n (c / 2 ^ k * 2 ^ k) (c % 2 ^ k)

pub crc_bits-octet : (c : ℕ) → crc_bits 8 c ≡ bit_xor (c / 256) (crc_octet 0 (c % 256))
unfolding crc_octet
crc_bits-octet c = crc_bits-parts 8 8 c ∙ ap (λ (n : ℕ). bit_xor n (crc_bits 8 (c % 256))) (crc_bits-shift 8 (c / 256))

-- ---- octet after octet

pub crc_over-next : (c : ℕ) (s : List ℕ) (i : ℕ) → i < length s → crc_over c (drop i s) ≡ crc_over (crc_bits 8 (bit_xor c (get_or s i 0))) (drop (i + 1) s)
unfolding crc_over crc_octet
crc_over-next c s i h = rw (drop-cons s i 0 h, add-one)

pub crc_over-end : (c : ℕ) (s : List ℕ) (i : ℕ) → length s ≤ i → crc_over c (drop i s) ≡ c
unfolding crc_over
crc_over-end c s i h = rw (drop_of_length-le s h)

-- octets after others go on from what those made of the register
pub crc_over-append : (c : ℕ) (s t : List ℕ) → crc_over c (s ++ t) ≡ crc_over (crc_over c s) t
unfolding crc_over
crc_over-append c [] t = refl
crc_over-append c (x ∷ s) t = crc_over-append (crc_octet c x) s t

-- octets in two parts, as lists
pub crc_over-parts : (c : ℕ) (s : List ℕ) (n : ℕ) → crc_over c s ≡ crc_over (crc_over c (take n s)) (drop n s)
crc_over-parts c s n = ap (crc_over c) (sym (take-append-drop n s)) ∙ crc_over-append c (take n s) (drop n s)

-- and as the code takes parts of a slice
pub crc_over-slices : (c : ℕ) (s : List ℕ) (n : ℕ) → crc_over (crc_over c (take (n - 0) s)) (take (length s - n) (drop n s)) ≡ crc_over c s
crc_over-slices c s n = rw (sub-zero n, take_all (length s - n) (drop n s) (le_of_eq (length-drop n s))) (sym (crc_over-parts c s n))

-- ---- octets as one word, the first low

-- bits after others go on from what those made of the register
pub crc_bits-add : (m n c : ℕ) → crc_bits (m + n) c ≡ crc_bits n (crc_bits m c)
unfolding crc_bits
crc_bits-add zero n c = rw (zero-add n)
crc_bits-add (suc m) n c = rw (suc-add m n) (crc_bits-add m n (crc_bit c))

-- eight bits of a register with a word mixed in: the low octet is gone over, and what is above it stays mixed in, an octet lower
crc_bits-low : (c w : ℕ) → crc_bits 8 (bit_xor c w) ≡ bit_xor (crc_octet c (w % 256)) (w / 256)
unfolding crc_octet
crc_bits-low c w =
    crc_bits-xor 8 c w
    ∙ ap (bit_xor (crc_bits 8 c)) (crc_bits-octet w ∙ xor_comm (w / 256) (crc_bits 8 (w % 256)))
    ∙ sym (xor_assoc (crc_bits 8 c) (crc_bits 8 (w % 256)) (w / 256))
    ∙ ap (λ (n : ℕ). bit_xor n (w / 256)) (sym (crc_bits-xor 8 c (w % 256)))

-- so the octets of a word, one after the other, make what the whole word makes at once
crc_over-word : (k c w : ℕ) → w < 256 ^ k → crc_over c (low_octets k w) ≡ crc_bits (8 * k) (bit_xor c w)
unfolding crc_over crc_bits low_octets
crc_over-word zero c w h = rw (lt-one h) (sym (xor_zero_r c))
crc_over-word (suc k) c w h =
    let e : 8 * suc k ≡ 8 + 8 * k = omega arith in
    let t = rw (pow-suc 256 k) at h in
    let q : w / 256 < 256 ^ k = omega arith in
    crc_over-word k (crc_octet c (w % 256)) (w / 256) q
    ∙ ap (crc_bits (8 * k)) (sym (crc_bits-low c w))
    ∙ sym (ap (λ (n : ℕ). crc_bits n (bit_xor c w)) e ∙ crc_bits-add 8 (8 * k) (bit_xor c w))

-- the word that octets make has no more octets than these
pub low-lt : (s : List ℕ) → Every (λ o. o < 256) s → low_first s < 256 ^ length s
unfolding low_first Every
low-lt [] h = omega arith
low-lt (x ∷ s) h =
    let l = low-lt s h.1 in
    let o = h.0 in
    rw (pow-suc 256 (length s)) (omega arith)

-- octets one after the other, from the word that they make
crc_over-low : (c : ℕ) (s : List ℕ) → Every (λ o. o < 256) s → crc_over c s ≡ crc_bits (8 * length s) (bit_xor c (low_first s))
crc_over-low c s h = ap (crc_over c) (sym (low-back s h)) ∙ crc_over-word (length s) c (low_first s) (low-lt s h)

-- four octets of a run, and those behind them
pub crc_over-four : (c : ℕ) (s : List ℕ) (i : ℕ) → Every (λ o. o < 256) s → i + 4 ≤ length s → crc_over c (drop i s) ≡ crc_over (crc_bits 32 (bit_xor c (low_first (take 4 (drop i s))))) (drop (i + 4) s)
crc_over-four c s i o h =
    let part = take 4 (drop i s) in
    let four : length part ≡ 4 = length-take-le 4 (drop i s) (rw length-drop (omega arith)) in
    let octets = every_take (λ (x : ℕ). x < 256) 4 (drop i s) (every_drop (λ (x : ℕ). x < 256) i s o) in
    crc_over-parts c (drop i s) 4
    ∙ ap (λ (l : List ℕ). crc_over (crc_over c part) l) (drop-drop 4 i s)
    ∙ ap (λ (n : ℕ). crc_over n (drop (i + 4) s)) (crc_over-low c part octets ∙ ap (λ (n : ℕ). crc_bits (8 * n) (bit_xor c (low_first part))) four)

-- ---- digests

-- zeros leave an empty register empty
crc_over-zeros : (s : List ℕ) → crc_over 0 (0 ∷ 0 ∷ s) ≡ crc_over 0 s
unfolding crc_over crc_octet crc_bits crc_bit
crc_over-zeros s = refl

-- so a state may be mixed into the octets that it goes over, behind two zeros
pub padded-over : (c tag : ℕ) (s : List ℕ) → c < 2 ^ 32 → crc_over 0 (0 ∷ 0 ∷ (low_octets 4 (bit_xor c (low_first (octets_of 4 tag))) ++ s)) ≡ crc_over c (octets_of 4 tag ++ s)
padded-over c tag s h =
    let head = octets_of 4 tag in
    let four = length-octets 4 tag in
    let octets = every-place (λ (x : ℕ). x < 256) head 0 (λ i _. octets-octets 4 tag i) in
    let w = low_first head in
    let wide : w < 2 ^ 32 = rw four at (low-lt head octets) in
    crc_over-zeros (low_octets 4 (bit_xor c w) ++ s)
    ∙ crc_over-append 0 (low_octets 4 (bit_xor c w)) s
    ∙ ap (λ (n : ℕ). crc_over n s) (crc_over-word 4 0 (bit_xor c w) (xor_lt 32 c w h wide) ∙ sym (rw four at (crc_over-low c head octets)))
    ∙ sym (crc_over-append c head s)

-- the digest of a flow, from the register that S, then G, then the tag and the identifier make one after the other
pub flow-digest-steps : (source group : List ℕ) (tag : ℕ) (esi : List ℕ) → bit_xor (crc_over (crc_over (crc_over all_ones source) group) (octets_of 4 tag ++ esi)) all_ones % 2 ^ 31 ≡ flow_digest_of (source ++ group) tag esi
unfolding flow_digest_of digest_over crc32_of
flow-digest-steps source group tag esi = rw (crc_over-append all_ones (source ++ group) (octets_of 4 tag ++ esi), crc_over-append all_ones source group)

-- ---- the low 31 bits decide a weight

-- the step of document 01's formula, which it takes twice
abbrev pub step : ℕ → ℕ
step n = 1103515245 * n + 12345

-- m n + k modulo p goes by n modulo p
pub linear-mod : (m k p n : ℕ) → (m * n + k) % p ≡ (m * (n % p) + k) % p
linear-mod m k p n =
    let q = m * (n / p) in
    let r = m * (n % p) in
    ap (λ (x : ℕ). (m * x + k) % p) (sym (div-add-mod' n p))
    ∙ rw (mul-add m (n / p * p) (n % p), ← mul_assoc m (n / p) p, add_assoc (q * p) r k) (mul-add-mod_self_right q p (r + k))

step-mod : (n : ℕ) → step n % 2 ^ 31 ≡ step (n % 2 ^ 31) % 2 ^ 31
step-mod = linear-mod 1103515245 12345 (2 ^ 31)

-- the formula with what enters the second product reduced
weight_of-reduced : (a d : ℕ) → weight_of a d ≡ step (bit_xor (step a) d % 2 ^ 31) % 2 ^ 31
unfolding weight_of
weight_of-reduced a d = step-mod (bit_xor (step a) d)

-- the formula doubled, with what enters the second product reduced to a word
step-doubled : (n : ℕ) → (2207030490 * n + 24690) % 2 ^ 32 ≡ 2 * (step n % 2 ^ 31)
step-doubled n = omega arith

pub weight_of-doubled : (a d : ℕ) → (2207030490 * (bit_xor (step a) d % 2 ^ 32) + 24690) % 2 ^ 32 ≡ 2 * weight_of a d
unfolding weight_of
weight_of-doubled a d = let n = bit_xor (step a) d in sym (linear-mod 2207030490 24690 (2 ^ 32) n) ∙ step-doubled n

-- only the low 31 bits of an address count
pub weight_of-low : (a d : ℕ) → weight_of a d ≡ weight_of (a % 2 ^ 31) d
weight_of-low a d =
    weight_of-reduced a d
    ∙ ap (λ (n : ℕ). step n % 2 ^ 31) (xor_mod (step a) d 31 ∙ ap (λ (n : ℕ). bit_xor n (d % 2 ^ 31)) (step-mod a) ∙ sym (xor_mod (step (a % 2 ^ 31)) d 31))
    ∙ sym (weight_of-reduced (a % 2 ^ 31) d)

-- so 32 of them are enough
pub weight_of-word : (a d : ℕ) → weight_of (a % 2 ^ 32) d ≡ weight_of a d
weight_of-word a d =
    let m : a % 2 ^ 32 % 2 ^ 31 ≡ a % 2 ^ 31 = omega arith in
    weight_of-low (a % 2 ^ 32) d ∙ ap (λ (n : ℕ). weight_of n d) m ∙ sym (weight_of-low a d)
