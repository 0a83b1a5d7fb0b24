-- Criteria in their order make a strict order (`Order` of Laws.antt), and over a list whose keys rise the best by a score is the first with the greatest.
-- Assumes nothing.
use Prim.Native.Nat.{ℕ, suc, ◌<◌}
use native.Mathlib.Omega.{arith}
use mathlib.Core.Path.{◌≡◌, refl, ap, sym, ◌∙◌}
use mathlib.Core.Bool.{Bool, true, false, cond, not, ◌&&◌}
use mathlib.Core.List.Memᴰ
use mathlib.Core.List.{List, [], ◌∷◌}
use borrow.Author.Tests.{ltb-true, ltb-false, lt-ltb, le-ltb}
use Rattle.lists.proofs.Bools.{true-false, not-true-false, not-false-true}
use Rattle.keyed.specs.Keyed.{Rising, Distinct, has}
use Rattle.keyed.proofs.Keyed.{rising-weaken}
use Rattle.keyed.proofs.Order.{has-mem, rising-distinct}
use Rattle.choice.specs.Choice.{best, decided, higher, lower, flagged, and_then, by_score}
use Rattle.choice.proofs.Laws.{Order, Unique}

-- ---- one criterion

-- a criterion may leave elements level: two never win over each other, and not to win is carried on from one to the next
pub record Criterion {A : Type 0} (wins : A → A → Bool) : Type 0 where
  pub asym : (a b : A) → wins a b ≡ true → wins b a ≡ false
  pub through : (a b c : A) → wins a b ≡ false → wins b c ≡ false → wins a c ≡ false

flag-asym : (a b : Bool) → (a && not b) ≡ true → (b && not a) ≡ false
flag-asym true true p = refl
flag-asym true false p = refl
flag-asym false b p = absurd (true-false p refl)

flag-through : (a b c : Bool) → (a && not b) ≡ false → (b && not c) ≡ false → (a && not c) ≡ false
flag-through true true c p q = q
flag-through true false c p q = absurd (true-false refl p)
flag-through false b c p q = refl

module _ {A : Type 0} where
  pub criterion-lower : (f : A → ℕ) → Criterion (lower f)
  criterion-lower f =
      record {
        asym = λ a b p. le-ltb (f b) (f a) (omega (arith, ltb-true (f a) (f b) p));
        through = λ a b c p q. le-ltb (f a) (f c) (omega (arith, ltb-false (f a) (f b) p, ltb-false (f b) (f c) q));
      }

  -- a criterion turned round is one
  pub criterion-turned : (wins : A → A → Bool) → Criterion wins → Criterion (λ (a b : A). wins b a)
  criterion-turned wins w = record { asym = λ a b. w.asym b a; through = λ a b c p q. w.through c b a q p }

  pub criterion-higher : (f : A → ℕ) → Criterion (higher f)
  criterion-higher f = criterion-turned (lower f) (criterion-lower f)

  pub criterion-flagged : (f : A → Bool) → Criterion (flagged f)
  criterion-flagged f = record { asym = λ a b. flag-asym (f a) (f b); through = λ a b c. flag-through (f a) (f b) (f c) }

  -- the last criterion tells all keys apart
  pub order-lower : (key : A → ℕ) → Order key (lower key)
  order-lower key =
      record {
        asym = (criterion-lower key).asym;
        trans = λ a b c p q. lt-ltb (key a) (key c) (omega (arith, ltb-true (key a) (key b) p, ltb-true (key b) (key c) q));
        tells = λ a b p q. omega (arith, ltb-false (key a) (key b) p, ltb-false (key b) (key a) q);
      }

-- ---- criteria in their order

module _ {A : Type 0} (wins later : A → A → Bool) where
  pub then-won : (a b : A) → wins a b ≡ true → and_then wins later a b ≡ true
  then-won a b p = rw p

  pub then-lost : (a b : A) → wins a b ≡ false → wins b a ≡ true → and_then wins later a b ≡ false
  then-lost a b p q = rw (p, q)

  pub then-level : (a b : A) → wins a b ≡ false → wins b a ≡ false → and_then wins later a b ≡ later a b
  then-level a b p q = rw (p, q)

  -- how a can be preferred to b
  data Won (a b : A) : Type 0 where
    first : wins a b ≡ true → Won a b
    second : wins a b ≡ false → wins b a ≡ false → later a b ≡ true → Won a b

  won : (a b : A) → and_then wins later a b ≡ true → Won a b
  won a b h = go (wins a b) (wins b a) refl refl
    where
      go : (s t : Bool) → wins a b ≡ s → wins b a ≡ t → Won a b
      go true t p q = first p
      go false true p q = absurd (true-false h (then-lost a b p q))
      go false false p q = second p q (sym (then-level a b p q) ∙ h)

  module _ (w : Criterion wins) where
    -- a win is carried on by one who is not behind
    win-left : (a b c : A) → wins a b ≡ true → wins c b ≡ false → wins a c ≡ true
    win-left a b c p q = not-false-true (λ r. true-false p (w.through a c b r q))

    win-right : (a b c : A) → wins b a ≡ false → wins b c ≡ true → wins a c ≡ true
    win-right a b c p q = not-false-true (λ r. true-false q (w.through b a c p r))

  module _ (key : A → ℕ) (w : Criterion wins) (o : Order key later) where
    then-asym : (a b : A) → Won a b → and_then wins later b a ≡ false
    then-asym a b (first p) = then-lost b a (w.asym a b p) p
    then-asym a b (second p q h) = then-level b a q p ∙ o.asym a b h

    then-trans : (a b c : A) → Won a b → Won b c → and_then wins later a c ≡ true
    then-trans a b c (first p) (first r) = then-won a c (win-left w a b c p (w.asym b c r))
    then-trans a b c (first p) (second r s k) = then-won a c (win-left w a b c p s)
    then-trans a b c (second p q h) (first r) = then-won a c (win-right w a b c q r)
    then-trans a b c (second p q h) (second r s k) = then-level a c (w.through a b c p r) (w.through c b a s q) ∙ o.trans a b c h k

    then-tells : (a b : A) → and_then wins later a b ≡ false → and_then wins later b a ≡ false → key a ≡ key b
    then-tells a b h k =
        let p : wins a b ≡ false = not-true-false (λ r. true-false (then-won a b r) h) in
        let q : wins b a ≡ false = not-true-false (λ r. true-false (then-won b a r) k) in
        o.tells a b (sym (then-level a b p q) ∙ h) (sym (then-level b a q p) ∙ k)

    -- a criterion and then an order are an order
    pub order-then : Order key (and_then wins later)
    order-then =
        record {
          asym = λ a b h. then-asym a b (won a b h);
          trans = λ a b c h k. then-trans a b c (won a b h) (won b c k);
          tells = then-tells;
        }

-- ---- by a score, then by the lower key

decided-none : (p q : Bool) → decided p q false ≡ p
decided-none true q = refl
decided-none false true = refl
decided-none false false = refl

module _ {A : Type 0} (score key : A → ℕ) where
  pub order-by_score : Order key (by_score score key)
  order-by_score = order-then (higher score) (lower key) key (criterion-higher score) (order-lower key)

-- ---- lists in which no key stands twice, as where keys rise

module _ {A : Type 0} (key : A → ℕ) where
  -- a key belongs to one element
  pub unique-distinct : (l : List A) → Distinct key l → Unique key l
  unique-distinct [] d a b h k e = absurd (Memᴰ.not-nil h)
  unique-distinct (x ∷ l) d a b (Memᴰ.head p) (Memᴰ.head q) e = p ∙ sym q
  unique-distinct (x ∷ l) d a b (Memᴰ.head p) (Memᴰ.tail k) e = absurd (true-false (has-mem key k) (ap (λ (j : ℕ). has key j l) (sym e ∙ ap key p) ∙ d.0))
  unique-distinct (x ∷ l) d a b (Memᴰ.tail h) (Memᴰ.head q) e = absurd (true-false (has-mem key h) (ap (λ (j : ℕ). has key j l) (e ∙ ap key q) ∙ d.0))
  unique-distinct (x ∷ l) d a b (Memᴰ.tail h) (Memᴰ.tail k) e = unique-distinct l d.1 a b h k e

  pub unique-rising : (n : ℕ) (l : List A) → Rising key n l → Unique key l
  unique-rising n l r = unique-distinct l (rising-distinct key l n r)

-- ---- the first with the greatest score

module _ {A : Type 0} (wins : A → A → Bool) (key : A → ℕ) where
  -- of two elements in rising order of their keys the later one is better only by the criterion itself
  pub then-later : (x y : A) → key x < key y → and_then wins (lower key) y x ≡ wins y x
  then-later x y h = rw (le-ltb (key y) (key x) (omega arith)) (decided-none (wins y x) (wins x y))

  later-step : (x y : A) (l : List A) (t : Bool) → Rising key (suc (key x)) (y ∷ l) → Rising key (suc (key (cond t y x))) l
  unfolding Rising
  later-step x y l true r = r.1
  later-step x y l false r = rising-weaken key l (suc (key x)) (suc (key y)) (omega (arith, r.0)) r.1

  -- so over a list whose keys rise, a walk by the criterion alone finds the best
  pub best-later : (x : A) (l : List A) → Rising key (suc (key x)) l → best (and_then wins (lower key)) x l ≡ best wins x l
  unfolding best Rising
  best-later x [] r = refl
  best-later x (y ∷ l) r = rw (then-later x y r.0) (best-later (cond (wins y x) y x) l (later-step x y l (wins y x) r))

module _ {A : Type 0} (score key : A → ℕ) where
  -- where keys rise, a walk that changes over only for a greater score finds it
  pub best-walk : (x : A) (l : List A) → Rising key (suc (key x)) l → best (by_score score key) x l ≡ best (higher score) x l
  best-walk = best-later (higher score) key
