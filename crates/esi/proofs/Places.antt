-- Laws on the places of a text: where it is right, the text of an identifier, and the identifier that a text says.
-- Assumes nothing.
use Prim.Native.Nat.{ℕ, zero, suc, ◌+◌, ◌*◌, ◌/◌, ◌%◌, ◌≤◌, ◌<◌}
use native.Mathlib.Nat.{not-suc-le-zero, le_of_suc-le-suc, mod-lt, div-add-mod, div-add-mod', add-zero, zero-add, mul-mod_right, mul-add-mod_self_left}
use native.Mathlib.Numerals.{add-one}
use native.Mathlib.Omega.{arith}
use mathlib.Core.Path.{◌≡◌, refl, sym, ◌∙◌, subst}
use mathlib.Core.Bool.{Bool, true, false, cond, ◌&&◌}
use mathlib.Core.List.{List, [], ◌∷◌}
use lib.ListN.{length, get_or, take, drop, length-take, length-map, drop_of_length-le, get_or-map}
use lib.Seq.{ext_get_or, drop-cons, get_or-take}
use lib.Arith.{digits_div, digits_mod}
use lib.Dec.{ltb, eqb}
use borrow.Author.Tests.{eq-eqb, ne_eqb, eqb-true, lt-ltb, ltb-true}
use Rattle.lists.specs.Lists.{tabulate}
use Rattle.lists.proofs.Bools.{cond-by}
use Rattle.lists.proofs.Lists.{length-tabulate, get_d_tabulate}
use Rattle.octets.proofs.Laws.{Octets, octets-nil, octets-cons}
use Rattle.octets.specs.Octets.{hex_digit}
use Rattle.esi.specs.Text.{value_of_digit, right_at, wrong_from, first_wrong, right_in, FirstFault, octet_at, esi_in, character_at, text_of, lower_character, lower_case}
use Rattle.esi.proofs.Digits.{value-digit, digit_value}

-- ---- a list by its places

octets-tabulate : (n : ℕ) (f : ℕ → ℕ) → ((k : ℕ) → k < n → f k < 256) → Octets (tabulate n f)
unfolding tabulate
octets-tabulate zero f h = octets-nil
octets-tabulate (suc n) f h = octets-cons (f 0) (tabulate n (λ k. f (suc k))) (h 0 (omega arith)) (octets-tabulate n (λ k. f (suc k)) (λ k l. h (suc k) (omega arith)))

-- ---- the three kinds of offset

pub right-colon : (i c : ℕ) → i % 3 ≡ 2 → right_at i c ≡ eqb c 58
unfolding right_at
right-colon i c e = rw (eq-eqb (i % 3) 2 e)

pub right-digit : (i c : ℕ) → i % 3 < 2 → right_at i c ≡ ltb (value_of_digit c) 16
unfolding right_at
right-digit i c h = rw (ne_eqb (i % 3) 2 (omega arith))

pub text-colon : (s : List ℕ) (i : ℕ) → i % 3 ≡ 2 → character_at s i ≡ 58
unfolding character_at
text-colon s i e = rw (eq-eqb (i % 3) 2 e)

pub text-high : (s : List ℕ) (i : ℕ) → i % 3 ≡ 0 → character_at s i ≡ hex_digit (get_or s (i / 3) 0 / 16)
unfolding character_at
text-high s i e = rw (ne_eqb (i % 3) 2 (omega arith), eq-eqb (i % 3) 0 e)

pub text-low : (s : List ℕ) (i : ℕ) → i % 3 ≡ 1 → character_at s i ≡ hex_digit (get_or s (i / 3) 0 % 16)
unfolding character_at
text-low s i e = rw (ne_eqb (i % 3) 2 (omega arith), ne_eqb (i % 3) 0 (omega arith))

-- what the code of a character goes by
pub ruleset character_kinds = (text-colon, text-high, text-low)

by_kind : (P : Type 0) (i : ℕ) → (i % 3 ≡ 0 → P) → (i % 3 ≡ 1 → P) → (i % 3 ≡ 2 → P) → P
by_kind P i high low colon = go (i % 3) (mod-lt i (omega arith)) high low colon
  where
    go : (m : ℕ) → m < 3 → (m ≡ 0 → P) → (m ≡ 1 → P) → (m ≡ 2 → P) → P
    go zero h a b c = a refl
    go (suc zero) h a b c = b refl
    go (suc (suc zero)) h a b c = c refl
    go (suc (suc (suc m))) h a b c = absurd (omega arith)

-- ---- the first wrong offset

module _ (t : List ℕ) (i : ℕ) where
  pub wrong-end : length t ≤ i → wrong_from i (drop i t) ≡ i
  unfolding wrong_from
  wrong-end h = rw (drop_of_length-le t h)

  pub wrong-here : i < length t → right_at i (get_or t i 0) ≡ false → wrong_from i (drop i t) ≡ i
  unfolding wrong_from
  wrong-here h w = rw (drop-cons t i 0 h, w)

  pub wrong-next : i < length t → right_at i (get_or t i 0) ≡ true → wrong_from i (drop i t) ≡ wrong_from (i + 1) (drop (i + 1) t)
  unfolding wrong_from
  wrong-next h w = rw (add-one, drop-cons t i 0 h, w)

-- the same of the first 29 characters, by what the code finds at offset i
module _ (t : List ℕ) where
  pub wrong_first : first_wrong t ≡ wrong_from 0 (drop 0 (take 29 t))
  unfolding first_wrong
  wrong_first = refl

  module _ (i : ℕ) where
    pub wrong_past : 29 ≤ i → wrong_from i (drop i (take 29 t)) ≡ i
    wrong_past h = wrong-end (take 29 t) i (omega (arith, length-take 29 t))

    pub wrong_missing : length t ≤ i → wrong_from i (drop i (take 29 t)) ≡ i
    wrong_missing h = wrong-end (take 29 t) i (omega (arith, length-take 29 t))

    pub wrong_found : i < 29 → i < length t → right_at i (get_or t i 0) ≡ false → wrong_from i (drop i (take 29 t)) ≡ i
    wrong_found n h w = wrong-here (take 29 t) i (omega (arith, length-take 29 t)) (rw (get_or-take 29 t i 0 n) w)

    pub wrong_further : i < 29 → i < length t → right_at i (get_or t i 0) ≡ true
        → wrong_from i (drop i (take 29 t)) ≡ wrong_from (i + 1) (drop (i + 1) (take 29 t))
    wrong_further n h w = wrong-next (take 29 t) i (omega (arith, length-take 29 t)) (rw (get_or-take 29 t i 0 n) w)

pub ruleset first_of_29 = (wrong_first, wrong_missing, wrong_found, wrong_further)

cond-first : (b : Bool) (x y z : ℕ) → cond b x y ≡ z → (y ≡ z → ⊥) → b ≡ true
cond-first true x y z e n = refl
cond-first false x y z e n = absurd (n e)

wrong-after : (t : List ℕ) (i : ℕ) → wrong_from i t ≡ i + length t → (k : ℕ) → k < length t → right_at (i + k) (get_or t k 0) ≡ true
unfolding wrong_from
wrong-after [] i e k h = absurd (not-suc-le-zero h)
wrong-after (c ∷ t) i e zero h = rw add-zero (cond-first (right_at i c) (wrong_from (suc i) t) i (i + suc (length t)) e (λ n. omega arith))
wrong-after (c ∷ t) i e (suc k) h =
    let r = cond-first (right_at i c) (wrong_from (suc i) t) i (i + suc (length t)) e (λ n. omega arith) in
    let step : i + suc k ≡ suc i + k = omega arith in
    rw step (wrong-after t (suc i) ((rw r at e) ∙ omega arith) k (le_of_suc-le-suc h))

right-after : (t : List ℕ) (i : ℕ) → ((k : ℕ) → k < length t → right_at (i + k) (get_or t k 0) ≡ true) → wrong_from i t ≡ i + length t
unfolding wrong_from
right-after [] i r = sym (add-zero i)
right-after (c ∷ t) i r =
    rw (rw add-zero at (r 0 (omega arith)))
    (right-after t (suc i) (λ k h. subst (λ (n : ℕ). right_at n (get_or t k 0) ≡ true) (omega arith) (r (suc k) (omega arith))) ∙ omega arith)

cond-past : (b : Bool) (x i k : ℕ) → i + k < cond b x i → b ≡ true
cond-past true x i k h = refl
cond-past false x i k h = absurd (omega arith)

-- before the first wrong offset each character is there and right
wrong-before : (t : List ℕ) (i k : ℕ) → i + k < wrong_from i t → (k < length t) × (right_at (i + k) (get_or t k 0) ≡ true)
unfolding wrong_from
wrong-before [] i k h = absurd (omega arith)
wrong-before (c ∷ t) i zero h = (omega arith, rw add-zero (cond-past (right_at i c) (wrong_from (suc i) t) i 0 h))
wrong-before (c ∷ t) i (suc k) h =
    let r = cond-past (right_at i c) (wrong_from (suc i) t) i (suc k) h in
    let step : i + suc k ≡ suc i + k = omega arith in
    let rest = wrong-before t (suc i) k (rw (r, step) at h) in
    (omega (arith, rest.0), rw step rest.1)

wrong-from : (t : List ℕ) (i : ℕ) → i ≤ wrong_from i t
unfolding wrong_from
wrong-from [] i = omega arith
wrong-from (c ∷ t) i = cond-by (λ (n : ℕ). i ≤ n) (right_at i c) (λ _. omega (arith, wrong-from t (suc i))) (λ _. omega arith)

cond-still : (b : Bool) (x i : ℕ) → suc i ≤ x → cond b x i ≡ i → b ≡ false
cond-still true x i h e = absurd (omega arith)
cond-still false x i h e = refl

-- and at it the character is missing or wrong
wrong-at : (t : List ℕ) (i k : ℕ) → wrong_from i t ≡ i + k → k < length t → right_at (i + k) (get_or t k 0) ≡ false
unfolding wrong_from
wrong-at [] i k e h = absurd (not-suc-le-zero h)
wrong-at (c ∷ t) i zero e h = rw add-zero (cond-still (right_at i c) (wrong_from (suc i) t) i (wrong-from t (suc i)) (e ∙ add-zero i))
wrong-at (c ∷ t) i (suc k) e h =
    let r = cond-first (right_at i c) (wrong_from (suc i) t) i (i + suc k) e (λ n. omega arith) in
    let step : i + suc k ≡ suc i + k = omega arith in
    rw step (wrong-at t (suc i) k ((rw r at e) ∙ step) (le_of_suc-le-suc h))

-- the first wrong offset among the first 29 is the first fault
pub first-fault : (t : List ℕ) → FirstFault t (first_wrong t)
unfolding first_wrong right_in
first-fault t = (before, at)
  where
    w : ℕ
    w = wrong_from 0 (take 29 t)

    before : (i : ℕ) → i < w → (ltb i 29 && (ltb i (length t) && right_at i (get_or t i 0))) ≡ true
    before i h =
        let p = wrong-before (take 29 t) 0 i (rw zero-add h) in
        let l : i < length (take 29 t) = p.0 in
        let n : i < 29 = omega (arith, length-take 29 t) in
        let m : i < length t = omega (arith, length-take 29 t) in
        rw (lt-ltb i 29 n, lt-ltb i (length t) m) (rw (zero-add i, get_or-take 29 t i 0 n) at p.1)

    go : (a b : Bool) → ltb w 29 ≡ a → ltb w (length t) ≡ b → (a && (b && right_at w (get_or t w 0))) ≡ false
    go false b p q = refl
    go true false p q = refl
    go true true p q =
        let n : w < 29 = ltb-true w 29 p in
        let m : w < length t = ltb-true w (length t) q in
        rw (zero-add w, get_or-take 29 t w 0 n) at (wrong-at (take 29 t) 0 w (sym (zero-add w)) (omega (arith, length-take 29 t)))

    at : (ltb w 29 && (ltb w (length t) && right_at w (get_or t w 0))) ≡ false
    at = go (ltb w 29) (ltb w (length t)) refl refl

-- none of a text's characters is wrong exactly if the first wrong offset is its end
pub right-each : (t : List ℕ) → wrong_from 0 t ≡ length t → (i : ℕ) → i < length t → right_at i (get_or t i 0) ≡ true
right-each t e i h = rw zero-add at (wrong-after t 0 (e ∙ sym (zero-add (length t))) i h)

pub each_right : (t : List ℕ) → ((i : ℕ) → i < length t → right_at i (get_or t i 0) ≡ true) → wrong_from 0 t ≡ length t
each_right t r = right-after t 0 (λ k h. rw zero-add (r k h)) ∙ zero-add (length t)

-- ---- the identifier that a right text says, and its text

-- each of the 29 characters is right
abbrev pub Right : List ℕ → Type 0
Right t = (i : ℕ) → i < 29 → right_at i (get_or t i 0) ≡ true

lower-colon : 58 ≡ lower_character 58
unfolding lower_character
lower-colon = refl

pub get_d-esi : (t : List ℕ) (k : ℕ) → k < 10 → get_or (esi_in t) k 0 ≡ octet_at t k
unfolding esi_in
get_d-esi t k h = get_d_tabulate 10 (octet_at t) k 0 h

module _ (t : List ℕ) (r : Right t) where
  value-at : (i : ℕ) → i < 29 → i % 3 < 2 → value_of_digit (get_or t i 0) < 16
  value-at i h k = ltb-true (value_of_digit (get_or t i 0)) 16 (sym (right-digit i (get_or t i 0) k) ∙ r i h)

  module _ (k : ℕ) (h : k < 10) where
    pub high_value : value_of_digit (get_or t (3 * k) 0) < 16
    high_value = value-at (3 * k) (omega arith) (rw (mul-mod_right 3 k) (omega arith))

    pub low_value : value_of_digit (get_or t (3 * k + 1) 0) < 16
    low_value = value-at (3 * k + 1) (omega arith) (rw (mul-add-mod_self_left 3 k 1) (omega arith))

    octet-high : octet_at t k / 16 ≡ value_of_digit (get_or t (3 * k) 0)
    unfolding octet_at
    octet-high = digits_div (value_of_digit (get_or t (3 * k) 0)) low_value

    octet-low : octet_at t k % 16 ≡ value_of_digit (get_or t (3 * k + 1) 0)
    unfolding octet_at
    octet-low = digits_mod (value_of_digit (get_or t (3 * k) 0)) low_value

    pub octet-lt : octet_at t k < 256
    unfolding octet_at
    octet-lt = omega (arith, high_value, low_value)

  module _ (o : Octets t) (i : ℕ) (h : i < 29) where
    third : i / 3 < 10
    third = omega arith

    digit_at : i % 3 < 2 → hex_digit (value_of_digit (get_or t i 0)) ≡ lower_character (get_or t i 0)
    digit_at k = digit_value (get_or t i 0) (o i) (value-at i h k)

    high-at : i % 3 ≡ 0 → character_at (esi_in t) i ≡ lower_character (get_or t i 0)
    high-at e =
        let offset : 3 * (i / 3) ≡ i = omega (arith, div-add-mod i 3) in
        rw (text-high (esi_in t) i e, get_d-esi t (i / 3) third, octet-high (i / 3) third, offset) (digit_at (omega arith))

    low-at : i % 3 ≡ 1 → character_at (esi_in t) i ≡ lower_character (get_or t i 0)
    low-at e =
        let offset : 3 * (i / 3) + 1 ≡ i = omega (arith, div-add-mod i 3) in
        rw (text-low (esi_in t) i e, get_d-esi t (i / 3) third, octet-low (i / 3) third, offset) (digit_at (omega arith))

    colon-at : i % 3 ≡ 2 → character_at (esi_in t) i ≡ lower_character (get_or t i 0)
    colon-at e =
        let c : get_or t i 0 ≡ 58 = eqb-true (get_or t i 0) 58 (sym (right-colon i (get_or t i 0) e) ∙ r i h) in
        rw (text-colon (esi_in t) i e, c) lower-colon

    text_at : character_at (esi_in t) i ≡ lower_character (get_or t i 0)
    text_at = by_kind (character_at (esi_in t) i ≡ lower_character (get_or t i 0)) i high-at low-at colon-at

pub length-esi : (t : List ℕ) → length (esi_in t) ≡ 10
unfolding esi_in
length-esi t = length-tabulate 10 (octet_at t)

pub length-text : (s : List ℕ) → length (text_of s) ≡ 29
unfolding text_of
length-text s = length-tabulate 29 (character_at s)

pub get_d-text : (s : List ℕ) (i : ℕ) → i < 29 → get_or (text_of s) i 0 ≡ character_at s i
unfolding text_of
get_d-text s i h = get_d_tabulate 29 (character_at s) i 0 h

pub esi-octets : (t : List ℕ) → Right t → Octets (esi_in t)
unfolding esi_in
esi-octets t r = octets-tabulate 10 (octet_at t) (octet-lt t r)

-- the text of the identifier that a right text says is that text in lower case
pub text-esi : (t : List ℕ) → length t ≡ 29 → Octets t → Right t → text_of (esi_in t) ≡ lower_case t
unfolding lower_case lower_character
text-esi t n o r =
    ext_get_or 0 (text_of (esi_in t)) (lower_case t) (length-text (esi_in t) ∙ sym (length-map t lower_character ∙ n))
    (λ i h. let k : i < 29 = rw (length-text (esi_in t)) at h in get_d-text (esi_in t) i k ∙ text_at t r o i k ∙ sym (get_or-map lower_character t i 0))

-- ---- the text of an identifier is right, and says it

digit-right : (i n : ℕ) → i % 3 < 2 → n < 16 → right_at i (hex_digit n) ≡ true
digit-right i n k h = right-digit i (hex_digit n) k ∙ lt-ltb (value_of_digit (hex_digit n)) 16 (rw (value-digit n h) h)

module _ (s : List ℕ) (o : Octets s) where
  pub text-right : (i : ℕ) → right_at i (character_at s i) ≡ true
  text-right i =
      by_kind (right_at i (character_at s i) ≡ true) i
      (λ e. rw (text-high s i e) (digit-right i (get_or s (i / 3) 0 / 16) (omega arith) (omega (arith, o (i / 3)))))
      (λ e. rw (text-low s i e) (digit-right i (get_or s (i / 3) 0 % 16) (omega arith) (omega arith)))
      (λ e. rw (text-colon s i e) (right-colon i 58 e))

  octet-text : (k : ℕ) → k < 10 → octet_at (text_of s) k ≡ get_or s k 0
  unfolding octet_at
  octet-text k h =
      let high : 3 * k / 3 ≡ k = omega arith in
      let low : (3 * k + 1) / 3 ≡ k = omega arith in
      let x = get_or s k 0 in
      rw (get_d-text s (3 * k) (omega arith), get_d-text s (3 * k + 1) (omega arith))
      (rw (text-high s (3 * k) (omega arith), text-low s (3 * k + 1) (omega arith), high, low)
      (rw (value-digit (x / 16) (omega (arith, o k)), value-digit (x % 16) (omega arith)) (div-add-mod' x 16)))

  pub esi-text : length s ≡ 10 → esi_in (text_of s) ≡ s
  unfolding esi_in
  esi-text n =
      ext_get_or 0 (esi_in (text_of s)) s (length-esi (text_of s) ∙ sym n)
      (λ k h. let j : k < 10 = rw (length-esi (text_of s)) at h in get_d_tabulate 10 (octet_at (text_of s)) k 0 j ∙ octet-text k j)
