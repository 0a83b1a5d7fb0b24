-- Which rows a search by halving compares: what is left to compare after each outcome of a look, and the bound. Assumes nothing.
use Prim.Native.Nat.{ℕ, zero, suc, ◌+◌, ◌-◌, ◌^◌, ◌≤◌, ◌<◌, zero-le, suc-le-suc}
use native.Mathlib.Nat.{two-pow-succ}
use native.Mathlib.Omega.{arith}
use mathlib.Core.Path.{◌≡◌, refl, ap, sym, ◌∙◌}
use mathlib.Core.List.{List, [], ◌∷◌}
use lib.ListN.{length, get_or}
use borrow.Author.Tests.{lt-ltb, le-ltb}
use Rattle.lists.proofs.Numbers.{either, ordered}
use Rattle.rows.specs.Rows.{middle, looked, looks_between, first_look, looks_for}

first-lt : (first n : ℕ) → 0 < n → first_look first n < n
unfolding first_look
first-lt first n h =
    either first n
    (λ p. rw (lt-ltb first n p) p)
    (λ p. rw (le-ltb first n p) (omega arith))

pub look-lt : {at : ℕ} (first n : ℕ) → at ≡ first_look first n → 0 < n → at < n
look-lt first n e h = rw e (first-lt first n h)

module _ (m : ℕ) (ks : List ℕ) where
  abbrev key_at : ℕ → ℕ
  key_at i = get_or ks i 0

  pub looked-none : (f lo at hi : ℕ) → hi ≤ lo → looked f m ks lo at hi ≡ []
  unfolding looked
  looked-none zero lo at hi h = refl
  looked-none (suc f) lo at hi h = rw (le-ltb lo hi h)

  -- one look, with each of its outcomes
  go_right : (f lo at hi : ℕ) → lo < hi → key_at at < m → looked (suc f) m ks lo at hi ≡ at ∷ looked f m ks (at + 1) (middle (at + 1) hi) hi
  unfolding looked
  go_right f lo at hi h q = rw (lt-ltb lo hi h, lt-ltb _ _ q)

  go_left : (f lo at hi : ℕ) → lo < hi → m < key_at at → looked (suc f) m ks lo at hi ≡ at ∷ looked f m ks lo (middle lo at) at
  unfolding looked
  go_left f lo at hi h q = rw (lt-ltb lo hi h, le-ltb (key_at at) m (omega arith), lt-ltb _ _ q)

  stop-here : (f lo at hi : ℕ) → lo < hi → key_at at ≡ m → looked (suc f) m ks lo at hi ≡ at ∷ []
  unfolding looked
  stop-here f lo at hi h q = rw (lt-ltb lo hi h, le-ltb (key_at at) m (omega arith), le-ltb m (key_at at) (omega arith))

  -- THE BOUND: a look and then ranges of at most b looks are at most b + 1 looks
  one_more : (f lo at hi b : ℕ) → length (looked f m ks (at + 1) (middle (at + 1) hi) hi) ≤ b → length (looked f m ks lo (middle lo at) at) ≤ b
      → length (looked (suc f) m ks lo at hi) ≤ suc b
  one_more f lo at hi b r l =
      either lo hi
      (λ p.
      ordered (key_at at) m
      (λ q. rw (go_right f lo at hi p q) (suc-le-suc r))
      (λ q. rw (stop-here f lo at hi p q) (suc-le-suc zero-le))
      (λ q. rw (go_left f lo at hi p q) (suc-le-suc l)))
      (λ p. rw (looked-none (suc f) lo at hi p) zero-le)

  -- a range of fewer than 2^j places takes at most j looks, the first in its middle
  range-looks : (f j lo hi : ℕ) → hi - lo < 2 ^ j → length (looked f m ks lo (middle lo hi) hi) ≤ j
  unfolding looked
  range-looks f zero lo hi h = rw (looked-none f lo (middle lo hi) hi (omega arith)) zero-le
  range-looks zero (suc j) lo hi h = zero-le
  range-looks (suc f) (suc j) lo hi h =
      let two : hi - lo < 2 ^ j + 2 ^ j = rw two-pow-succ at h in
      either lo hi
      (λ p. one_more f lo (middle lo hi) hi j (range-looks f j (middle lo hi + 1) hi (omega arith)) (range-looks f j lo (middle lo hi) (omega arith)))
      (λ p. rw (looked-none (suc f) lo (middle lo hi) hi p) zero-le)

  -- of 2^j places at most j + 1 are compared, wherever the first look is
  pub few-from : (f j lo at hi : ℕ) → (lo < hi → (lo ≤ at) × (at < hi)) → hi - lo ≤ 2 ^ j → length (looked f m ks lo at hi) ≤ suc j
  unfolding looked
  few-from zero j lo at hi i h = zero-le
  few-from (suc f) j lo at hi i h =
      either lo hi
      (λ p. one_more f lo at hi j (range-looks f j (at + 1) hi (omega (arith, i p))) (range-looks f j lo at (omega (arith, i p))))
      (λ p. rw (looked-none (suc f) lo at hi p) zero-le)

  pub few-looks : (first j : ℕ) → length ks ≤ 2 ^ j → length (looks_for first m ks) ≤ suc j
  unfolding looks_for
  few-looks first j h = few-from (length ks) j 0 (first_look first (length ks)) (length ks) (λ p. (zero-le, first-lt first (length ks) p)) (omega arith)

  pub few-between : (j lo hi : ℕ) → hi - lo < 2 ^ j → length (looks_between m ks lo hi) ≤ j
  unfolding looks_between
  few-between j lo hi h = range-looks (hi - lo) j lo hi h

  -- every number from the length of the range on gives the same looks
  enough : (f g lo at hi : ℕ) → (lo < hi → (lo ≤ at) × (at < hi)) → hi - lo ≤ f → hi - lo ≤ g → looked f m ks lo at hi ≡ looked g m ks lo at hi
  enough zero g lo at hi i p q = looked-none zero lo at hi (omega arith) ∙ sym (looked-none g lo at hi (omega arith))
  enough (suc f) zero lo at hi i p q = looked-none (suc f) lo at hi (omega arith) ∙ sym (looked-none zero lo at hi (omega arith))
  enough (suc f) (suc g) lo at hi i p q =
      either lo hi
      (λ h.
      let w = i h in
      ordered (key_at at) m
      (λ l. go_right f lo at hi h l ∙ ap (at ∷◌) (enough f g (at + 1) (middle (at + 1) hi) hi (λ v. (omega arith, omega arith)) (omega (arith, w)) (omega (arith, w))) ∙ sym (go_right g lo at hi h l))
      (λ e. stop-here f lo at hi h e ∙ sym (stop-here g lo at hi h e))
      (λ r. go_left f lo at hi h r ∙ ap (at ∷◌) (enough f g lo (middle lo at) at (λ v. (omega arith, omega arith)) (omega (arith, w)) (omega (arith, w))) ∙ sym (go_left g lo at hi h r)))
      (λ h. looked-none (suc f) lo at hi h ∙ sym (looked-none (suc g) lo at hi h))

  -- THE FIRST LOOK of a range: in the middle, or where it is proposed
  pub between-at : (lo at hi : ℕ) → at ≡ middle lo hi → looks_between m ks lo hi ≡ looked (hi - lo) m ks lo at hi
  unfolding looks_between
  between-at lo at hi e = rw e

  pub for-first : (first at n : ℕ) → length ks ≡ n → at ≡ first_look first n → looks_for first m ks ≡ looked (n - 0) m ks 0 at n
  unfolding looks_for
  for-first first at n e q = let z : n - 0 ≡ n = omega arith in rw (e, q, z)

  pub for-at : (at : ℕ) → at < length ks → looks_for at m ks ≡ looked (length ks) m ks 0 at (length ks)
  unfolding looks_for first_look
  for-at at h = rw (lt-ltb at (length ks) h)

  pub for-middle : (first : ℕ) → length ks ≤ first → looks_for first m ks ≡ looks_between m ks 0 (length ks)
  unfolding looks_for first_look looks_between
  for-middle first h = let z : length ks - 0 ≡ length ks = omega arith in rw (le-ltb first (length ks) h, z)

  -- WHAT IS LEFT after a look at a place of a range, by its outcome
  module _ (f lo at hi : ℕ) (l : lo ≤ at) (h : at < hi) (e : hi - lo ≤ f) where
    abbrev less : ℕ
    less = f - 1

    fuel : f ≡ suc less
    fuel = omega arith

    pub left-right : key_at at < m → looked f m ks lo at hi ≡ at ∷ looks_between m ks (at + 1) hi
    unfolding looks_between
    left-right q =
        ap (λ (g : ℕ). looked g m ks lo at hi) fuel
        ∙ go_right less lo at hi (omega arith) q
        ∙ ap (at ∷◌) (enough less (hi - (at + 1)) (at + 1) (middle (at + 1) hi) hi (λ v. (omega arith, omega arith)) (omega arith) (omega arith))

    pub left-left : m < key_at at → looked f m ks lo at hi ≡ at ∷ looks_between m ks lo at
    unfolding looks_between
    left-left q =
        ap (λ (g : ℕ). looked g m ks lo at hi) fuel
        ∙ go_left less lo at hi (omega arith) q
        ∙ ap (at ∷◌) (enough less (at - lo) lo (middle lo at) at (λ v. (omega arith, omega arith)) (omega arith) (omega arith))

    pub left-none : key_at at ≡ m → looked f m ks lo at hi ≡ at ∷ []
    left-none q = ap (λ (g : ℕ). looked g m ks lo at hi) fuel ∙ stop-here less lo at hi (omega arith) q
