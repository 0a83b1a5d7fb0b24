-- Laws of `specs/Lines.antt`: the decimal digits of a number, the dotted form of an address, and pieces put one after the other.
-- Assumes nothing.
use Prim.Native.Nat.{ℕ, zero, suc, ◌+◌, ◌-◌, ◌*◌, ◌/◌, ◌%◌, ◌^◌, ◌≤◌, ◌<◌}
use native.Mathlib.Nat.{not-suc-le-zero, le_of_suc-le-suc, pow-suc}
use native.Mathlib.Omega.{arith}
use mathlib.Core.Path.{◌≡◌, refl, ap, ◌∙◌, sym, subst}
use mathlib.Core.Bool.{Bool, true, false, cond}
use mathlib.Core.List.{List, [], ◌∷◌, ◌++◌}
use lib.ListN.{length, get_or, take, length-append}
use lib.Dec.{leb, ltb}
use borrow.Author.Tests.{lt-ltb, le-ltb, le-leb, lt-leb, leb-true, ltb-true, ltb-false}
use Rattle.octets.specs.Octets.{hex_digit, stored}
use Rattle.octets.proofs.Laws.{Octets, stored-not, length-stored, stored-stored, take-stored, octets-nil, octets-cons}
use Rattle.lines.specs.Lines.{digit, digits, decimal, dotted, hex, position_after, Put}

-- ---- decimal digits

digits-small : (k n : ℕ) → n < 10 → digits (suc k) n ≡ digit n ∷ []
unfolding digits
digits-small k n h = rw (lt-ltb n 10 h)

digits_more : (k n : ℕ) → 10 ≤ n → digits (suc k) n ≡ digits k (n / 10) ++ digit (n % 10) ∷ []
unfolding digits
digits_more k n h = rw (le-ltb n 10 h)

-- a number is below 10, or not
below-ten : {X : Type 0} (n : ℕ) → (n < 10 → X) → (10 ≤ n → X) → X
below-ten {X} n f g = by-test (ltb n 10) (ltb-true n 10) (ltb-false n 10)
  where
    by-test : (t : Bool) → (t ≡ true → n < 10) → (t ≡ false → 10 ≤ n) → X
    by-test true a b = f (a refl)
    by-test false a b = g (b refl)

-- more room for digits than needed does not matter
digits-room : (k m n : ℕ) → n < k → n < m → digits k n ≡ digits m n
digits-room zero m n h l = absurd (not-suc-le-zero h)
digits-room (suc k) zero n h l = absurd (not-suc-le-zero l)
digits-room (suc k) (suc m) n h l =
    below-ten n
    (λ s. digits-small k n s ∙ sym (digits-small m n s))
    (λ b. digits_more k n b ∙ ap (λ (s : List ℕ). s ++ digit (n % 10) ∷ []) (digits-room k m (n / 10) (omega arith) (omega arith)) ∙ sym (digits_more m n b))

-- a number below 10 is one digit; any other is the digits of its tenth, then its last digit
pub decimal-small : (n : ℕ) → n < 10 → decimal n ≡ digit n ∷ []
unfolding decimal
decimal-small n h = digits-small n n h

pub decimal-more : (n : ℕ) → 10 ≤ n → decimal n ≡ decimal (n / 10) ++ digit (n % 10) ∷ []
unfolding decimal
decimal-more n h = digits_more n n h ∙ ap (λ (s : List ℕ). s ++ digit (n % 10) ∷ []) (digits-room n (suc (n / 10)) (n / 10) (omega arith) (omega arith))

-- at most k for a number below 10 ^ k, k not 0; so three for an octet and 20 for a u64
pub length-decimal : (k n : ℕ) → n < 10 ^ suc k → length (decimal n) ≤ suc k
length-decimal zero n h = rw (decimal-small n h) (omega arith)
length-decimal (suc k) n h =
    below-ten n
    (λ s. rw (decimal-small n s) (omega arith))
    (λ b. rw (decimal-more n b, length-append) (omega (arith, length-decimal k (n / 10) (omega (arith, pow-suc 10 (suc k))))))

pub length-decimal-octet : (n : ℕ) → n < 256 → length (decimal n) ≤ 3
length-decimal-octet n h = length-decimal 2 n (omega arith)

-- two and three digits
pub decimal-two : (n : ℕ) → 10 ≤ n → n < 100 → decimal n ≡ digit (n / 10) ∷ digit (n % 10) ∷ []
decimal-two n h l = rw (decimal-more n h, decimal-small (n / 10) (omega arith))

pub decimal-three : (n : ℕ) → 100 ≤ n → n < 1000 → decimal n ≡ digit (n / 100) ∷ digit (n / 10 % 10) ∷ digit (n % 10) ∷ []
decimal-three n h l =
    let e : n / 10 / 10 ≡ n / 100 = omega arith in
    rw (decimal-more n (omega arith), decimal-two (n / 10) (omega arith) (omega arith), e)

-- ---- the dotted form of an address

pub length-dots : (s : List ℕ) → Octets s → length (dotted s) ≤ 4 * length s - 1
unfolding dotted
length-dots [] o = omega arith
length-dots (x ∷ []) o = omega (arith, length-decimal-octet x (o 0))
length-dots (x ∷ y ∷ s) o =
    rw length-append (omega (arith, length-decimal-octet x (o 0), length-dots (y ∷ s) (λ i. o (suc i))))

pub length-dotted : (a b c d : ℕ) → a < 256 → b < 256 → c < 256 → d < 256 → length (dotted (a ∷ b ∷ c ∷ d ∷ [])) ≤ 15
length-dotted a b c d p q r s = length-dots (a ∷ b ∷ c ∷ d ∷ []) (octets-cons a (b ∷ c ∷ d ∷ []) p (octets-cons b (c ∷ d ∷ []) q (octets-cons c (d ∷ []) r (octets-cons d [] s octets-nil))))

-- ---- octets in hexadecimal

pub length-hex : (s : List ℕ) → length (hex s) ≡ 2 * length s
unfolding hex
length-hex [] = refl
length-hex (x ∷ s) = omega (arith, length-hex s)

-- the digits of the first i octets
pub hex-next : (s : List ℕ) (i : ℕ) → i < length s → take (2 * (i + 1)) (hex s) ≡ take (2 * i) (hex s) ++ (hex_digit (get_or s i 0 / 16) ∷ hex_digit (get_or s i 0) ∷ [])
unfolding hex
hex-next [] i h = absurd (not-suc-le-zero h)
hex-next (x ∷ s) zero h = refl
hex-next (x ∷ s) (suc i) h =
    let n : 2 * (suc i + 1) ≡ suc (suc (2 * (i + 1))) = omega arith in
    let m : 2 * suc i ≡ suc (suc (2 * i)) = omega arith in
    rw (n, m) (ap (λ (l : List ℕ). hex_digit (x / 16) ∷ hex_digit x ∷ l) (hex-next s i (le_of_suc-le-suc h)))

-- ---- pieces put into a buffer

-- a piece that has room, and one that has none
pub put-made : {d : List ℕ} {at : ℕ} {s : List ℕ} {r : ℕ} {e : List ℕ} → at + length s ≤ length d → r ≡ at + length s → e ≡ stored d at s → Put d at s r e
unfolding position_after
put-made {d} {at} {s} h p b = record { position = p ∙ rw (le-leb (at + length s) (length d) h); buffer = b }

pub put_refused : (d : List ℕ) (at : ℕ) (s : List ℕ) → length d < at + length s → Put d at s at d
unfolding position_after
put_refused d at s h = record { position = rw (lt-leb (at + length s) (length d) h); buffer = sym (stored-not d at s h) }

module _ {d : List ℕ} {at : ℕ} {s : List ℕ} {r : ℕ} {e : List ℕ} (p : Put d at s r e) where
  -- the same piece, said in another way
  pub put_as : {t : List ℕ} → s ≡ t → Put d at t r e
  put_as q = subst (λ (l : List ℕ). Put d at l r e) q p

  -- with room, the answer is the position after the piece, and `.buffer` says what is stored; without, nothing changes
  pub put-position : at + length s ≤ length d → r ≡ at + length s
  unfolding position_after
  put-position h = p.position ∙ rw (le-leb (at + length s) (length d) h)

  -- the position after a piece is inside the buffer or at its end
  pub put-within : at ≤ length d → r ≤ length d
  unfolding position_after
  put-within h = rw p.position (by-test (leb (at + length s) (length d)) (leb-true (at + length s) (length d)))
    where
      by-test : (t : Bool) → (t ≡ true → at + length s ≤ length d) → cond t (at + length s) at ≤ length d
      by-test true k = k refl
      by-test false k = h

  pub put-length : length e ≡ length d
  put-length = ap length p.buffer ∙ length-stored d at s

-- a piece, then what follows it: with room for all, they are one piece. Three pieces are `put_next p (put_next q (λ _. r))`
pub put_next : {d : List ℕ} {at : ℕ} {p : List ℕ} {m : ℕ} {e s : List ℕ} {r : ℕ} {f : List ℕ}
    → Put d at p m e → (m + length s ≤ length e → Put e m s r f) → at + length (p ++ s) ≤ length d → Put d at (p ++ s) r f
put_next {d} {at} {p} {m} {e} {s} {r} {f} a b h =
    let l = length-append p s in
    let k = put-length a in
    let o : m ≡ at + length p = put-position a (omega arith) in
    let room : m + length s ≤ length e = omega arith in
    let q = b room in
    put-made h (put-position q room ∙ omega arith) (q.buffer ∙ ap (λ (x : List ℕ). stored x m s) a.buffer ∙ stored-stored d at p s m (sym o) (omega arith))

-- pieces put one after the other that together are t: with room for t, t is put
pub put_all : {d : List ℕ} {at : ℕ} {s : List ℕ} {r : ℕ} {e t : List ℕ} → (at + length s ≤ length d → Put d at s r e) → s ≡ t → at + length t ≤ length d → Put d at t r e
put_all p q h = put_as (p (rw q h)) q

-- a piece at the front of a buffer can be read back
pub put_front : {d s : List ℕ} {r : ℕ} {e : List ℕ} → Put d 0 s r e → length s ≤ length d → (r ≡ length s) × (take r e ≡ s)
put_front {d} {s} {r} {e} p h =
    let q : r ≡ length s = put-position p (omega arith) ∙ omega arith in
    (q, rw (q, p.buffer) (take-stored d s h))
