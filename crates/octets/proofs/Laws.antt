-- Laws of `specs/Octets.antt`: equal runs, runs of one octet, numbers from and to octets, and stores into a buffer.
-- Assumes nothing.
use Prim.Native.Nat.{ℕ, zero, suc, ◌+◌, ◌*◌, ◌/◌, ◌%◌, ◌^◌, ◌≤◌, ◌<◌}
use native.Mathlib.Nat.{pow-succ', one-le-pow}
use native.Mathlib.Nat.{div-one, mod-one, mod-lt, mod-eq_of_lt, le_refl, le_of_eq, add_assoc, zero-add, add-mul, mul_assoc}
use native.Mathlib.Numerals.{add-one}
use native.Mathlib.Omega.{arith}
use mathlib.Core.Path.{◌≡◌, refl, ap, ap₂, ◌∙◌, sym, subst}
use mathlib.Core.Bool.{Bool, cond, true, false, false≢true, and-eq-true_iff}
use mathlib.Core.List.{List, [], ◌∷◌, ◌++◌, append_assoc, append-nil}
use lib.ListN.{length, get_or, set, take, drop, replicate, length-append, length-drop, drop_of_length-le}
use lib.Seq.{take_at, take-append_seam, take-length, length-take-le, drop-append-add, drop-drop, get_or-drop, length-paste, paste-suc, take_all, drop-cons}
use lib.Arith.{mod-mul}
use lib.Pow.{pow-add}
use lib.Dec.{leb, ltb, eqb}
use borrow.Rule.Slice.PartMut.{put_mid}
use borrow.Author.Tests.{eq-eqb, eqb-true, le-leb, lt-leb, leb-true}
use Rattle.lists.proofs.Bools.{cond-by, true-false, not-true-false, not-false-true}
use Rattle.lists.specs.Lists.{tabulate}
use Rattle.lists.proofs.Lists.{all-each, all-not, get_d_tabulate}
use Rattle.std.specs.Prelude.{◌↔◌}
use Rattle.octets.specs.Octets.{number_of, word_at, octets_of, same_numbers, all_are, hex_digit, stored}

-- ---- every element is an octet

abbrev pub Octets : List ℕ → Type 0
Octets s = (i : ℕ) → get_or s i 0 < 256

pub octets-nil : Octets []
octets-nil i = omega arith

pub octets-cons : (x : ℕ) (s : List ℕ) → x < 256 → Octets s → Octets (x ∷ s)
octets-cons x s h o zero = h
octets-cons x s h o (suc i) = o i

pub octets-replicate : (n x : ℕ) → x < 256 → Octets (replicate n x)
octets-replicate zero x h = octets-nil
octets-replicate (suc n) x h = octets-cons x (replicate n x) h (octets-replicate n x h)

pub octets-take : (n : ℕ) (s : List ℕ) → Octets s → Octets (take n s)
octets-take zero s o = octets-nil
octets-take (suc n) [] o = octets-nil
octets-take (suc n) (x ∷ s) o = octets-cons x (take n s) (o 0) (octets-take n s (λ i. o (suc i)))

pub octets-drop : (n : ℕ) (s : List ℕ) → Octets s → Octets (drop n s)
octets-drop n s o i = rw get_or-drop (o (n + i))

-- ---- equal runs

pub same_refl : (a : List ℕ) → same_numbers a a ≡ true
unfolding same_numbers
same_refl [] = refl
same_refl (x ∷ a) = rw (eq-eqb x x refl) (same_refl a)

pub same-equal : (a b : List ℕ) → same_numbers a b ≡ true → a ≡ b
unfolding same_numbers
same-equal [] [] h = refl
same-equal [] (y ∷ b) h = absurd (false≢true h)
same-equal (x ∷ a) [] h = absurd (false≢true h)
same-equal (x ∷ a) (y ∷ b) h =
    let p = (and-eq-true_iff (eqb x y) (same_numbers a b)).0 h in
    ap₂ (λ (v : ℕ) (l : List ℕ). v ∷ l) (eqb-true x y p.0) (same-equal a b p.1)

pub same_of : {a b : List ℕ} → a ≡ b → same_numbers a b ≡ true
same_of {a} e = rw (← e) (same_refl a)

pub same-differ : (a b : List ℕ) → (a ≡ b → ⊥) → same_numbers a b ≡ false
same-differ a b h = not-true-false (λ t. h (same-equal a b t))

-- ---- runs of one octet

pub all-are-each : (x : ℕ) (s : List ℕ) → ((i : ℕ) → i < length s → get_or s i 0 ≡ x) → all_are x s ≡ true
unfolding all_are
all-are-each x s h = all-each (λ y. eqb y x) s 0 (λ i k. eq-eqb _ _ (h i k))

-- each of them, where all are x
all-are-at : (x : ℕ) (s : List ℕ) (i : ℕ) → i < length s → all_are x s ≡ true → get_or s i 0 ≡ x
unfolding all_are
all-are-at x s i h t = eqb-true _ _ (not-false-true (λ f. true-false t (all-not (λ y. eqb y x) s i 0 h f)))

-- a test that is true exactly where every octet is x
pub all_are_when : (b : Bool) (x : ℕ) (s : List ℕ) → (b ≡ true ↔ ((k : ℕ) → k < length s → get_or s k 0 ≡ x)) → b ≡ all_are x s
all_are_when true x s h = sym (all-are-each x s (h.0 refl))
all_are_when false x s h = sym (not-true-false (λ t. false≢true (h.1 (λ k l. all-are-at x s k l t))))

-- ---- the sixteen hexadecimal digits, in a row

pub digit_rows : (n : ℕ) → get_or (48 ∷ 49 ∷ 50 ∷ 51 ∷ 52 ∷ 53 ∷ 54 ∷ 55 ∷ 56 ∷ 57 ∷ 97 ∷ 98 ∷ 99 ∷ 100 ∷ 101 ∷ 102 ∷ []) (n % 16) 0 ≡ hex_digit n
unfolding hex_digit tabulate
digit_rows n = get_d_tabulate 16 (λ d. cond (ltb d 10) (48 + d) (87 + d)) (n % 16) 0 (mod-lt n (omega arith))

-- ---- numbers from and to octets

pos : (n : ℕ) → 0 < 256 ^ n
pos n = one-le-pow n 256 (omega arith)

pub length-octets : (n v : ℕ) → length (octets_of n v) ≡ n
unfolding octets_of
length-octets zero v = refl
length-octets (suc n) v = ap suc (length-octets n v)

pub octets-octets : (n v : ℕ) → Octets (octets_of n v)
unfolding octets_of
octets-octets zero v i = omega arith
octets-octets (suc n) v zero = mod-lt (v / 256 ^ n) (omega arith)
octets-octets (suc n) v (suc i) = octets-octets n v i

pub number-octets : (n v : ℕ) → number_of (octets_of n v) ≡ v % 256 ^ n
unfolding number_of octets_of
number-octets zero v = sym (mod-one v)
number-octets (suc n) v =
    rw (length-octets n v, number-octets n v, pow-succ' 256 n) (sym (mod-mul v (omega arith) (pos n)))

pub number-octets-small : (n v : ℕ) → v < 256 ^ n → number_of (octets_of n v) ≡ v
number-octets-small n v h = number-octets n v ∙ mod-eq_of_lt h

pub number_append : (a b : List ℕ) → number_of (a ++ b) ≡ number_of a * 256 ^ length b + number_of b
unfolding number_of
number_append [] b = omega arith
number_append (x ∷ a) b =
    let p = 256 ^ length b in
    rw (length-append a b, pow-add 256 (length a) (length b), number_append a b, add-mul (x * 256 ^ length a) (number_of a) p, mul_assoc x (256 ^ length a) p)
    (sym (add_assoc (x * (256 ^ length a * p)) (number_of a * p) (number_of b)))

-- the number of four octets, as a sum
pub number-four : (a b c d : ℕ) → number_of (a ∷ b ∷ c ∷ d ∷ []) ≡ a * 16777216 + b * 65536 + c * 256 + d
unfolding number_of
number-four a b c d = omega arith

pub four-octets : (v : ℕ) → octets_of 4 v ≡ v / 16777216 % 256 ∷ v / 65536 % 256 ∷ v / 256 % 256 ∷ v % 256 ∷ []
unfolding octets_of
four-octets v = rw (div-one v)

-- ---- a store into a buffer

pub stored-fits : (d : List ℕ) (at : ℕ) (s : List ℕ) → at + length s ≤ length d → stored d at s ≡ take at d ++ s ++ drop (at + length s) d
unfolding stored
stored-fits d at s h = rw (le-leb (at + length s) (length d) h)

pub stored-not : (d : List ℕ) (at : ℕ) (s : List ℕ) → length d < at + length s → stored d at s ≡ d
unfolding stored
stored-not d at s h = rw (lt-leb (at + length s) (length d) h)

-- a part of the buffer written over
pub stored_mid : (d : List ℕ) (at k : ℕ) (s e : List ℕ) → at + length s ≤ length d → k ≡ length s → e ≡ s → put_mid at k d e ≡ stored d at s
stored_mid d at k s e h n q = sym (stored-fits d at s h ∙ rw (n, q, append_assoc, drop-drop) refl)

pub ruleset stores = (stored-not, stored_mid)

pub length-stored : (d : List ℕ) (at : ℕ) (s : List ℕ) → length (stored d at s) ≡ length d
unfolding stored
length-stored d at s =
    cond-by (λ (l : List ℕ). length l ≡ length d) (leb (at + length s) (length d))
    (λ h. subst (λ (l : List ℕ). length (take at d ++ l ++ drop (at + length s) d) ≡ length d) (take-length s) (length-paste d at s (length s) (leb-true (at + length s) (length d) h) (le_refl (length s))))
    (λ _. refl)

-- a store right after a prefix
pub stored-after : (p l s : List ℕ) (n : ℕ) → length p ≡ n → length s ≤ length l → stored (p ++ l) n s ≡ p ++ s ++ drop (length s) l
stored-after p l s n e h =
    stored-fits (p ++ l) n s (simp length-append (omega arith))
    ∙ ap₂ (λ (a b : List ℕ). a ++ s ++ b) (take_at p l n e) (rw (← e) (drop-append-add p l (length s)))

pub stored-front : (d s : List ℕ) → length s ≤ length d → stored d 0 s ≡ s ++ drop (length s) d
stored-front d s h = stored-after [] d s 0 refl h

pub take-stored : (d s : List ℕ) → length s ≤ length d → take (length s) (stored d 0 s) ≡ s
take-stored d s h = rw (stored-front d s h) (take-append_seam s (drop (length s) d))

-- a store over the whole buffer
pub stored-all : (d s : List ℕ) → length s ≡ length d → stored d 0 s ≡ s
stored-all d s e = stored-front d s (omega arith) ∙ rw (drop_of_length-le d {i = length s} (omega arith)) (append-nil s)

-- two stores, one after the other, are one
pub stored-stored : (d : List ℕ) (at : ℕ) (p s : List ℕ) (n : ℕ) → at + length p ≡ n → n + length s ≤ length d → stored (stored d at p) n s ≡ stored d at (p ++ s)
stored-stored d at p s n e h =
    let low : at ≤ length d = omega arith in
    ap (λ (l : List ℕ). stored l n s) (stored-fits d at p (omega arith))
    ∙ stored-after (take at d ++ p) (drop (at + length p) d) s n (simp (length-append, length-take-le) (omega arith)) (simp length-drop (omega arith))
    ∙ rw (drop-drop, append_assoc (take at d) p s, add_assoc, ← length-append p s) (sym (stored-fits d at (p ++ s) (simp length-append (omega arith))))

-- a store octet by octet from the front: one more octet of s; all of them
pub front-next : (d s : List ℕ) (i : ℕ) → i < length d → i < length s → set (take i s ++ drop i d) i (get_or s i 0) ≡ take (i + 1) s ++ drop (i + 1) d
front-next d s i h k = rw add-one (simp zero-add at (paste-suc d 0 s i 0 (rw zero-add h) k))

pub front-all : (d s : List ℕ) (n : ℕ) → length s ≡ n → take n s ++ drop n d ≡ s ++ drop n d
front-all d s n e = rw (take_all n s (le_of_eq e))

-- ---- a part of a run, element by element

abbrev pub elements : ℕ → ℕ → List ℕ → List ℕ
elements zero i s = []
elements (suc n) i s = get_or s i 0 ∷ elements n (suc i) s

pub take-elements : (n i : ℕ) (s : List ℕ) → i + n ≤ length s → take n (drop i s) ≡ elements n i s
take-elements zero i s h = refl
take-elements (suc n) i s h =
    ap (take (suc n)) (drop-cons s i 0 (omega arith)) ∙ ap (get_or s i 0 ∷◌) (take-elements n (suc i) s (omega arith))

pub word-elements : (i v : ℕ) (s : List ℕ) → i + 4 ≤ length s → v ≡ number_of (elements 4 i s) → v ≡ word_at i s
word-elements i v s h q = q ∙ ap number_of (sym (take-elements 4 i s h))
