-- Laws of `specs/Choice.antt`, over any element: the best of a list is in it, nothing in it is better, and it is the only such element, so it does not
-- depend on how the list is walked, and losers may come and go.
-- Assumes nothing.
use Prim.Native.Nat.{ℕ}
use mathlib.Core.Path.{◌≡◌, refl, ap, sym, ◌∙◌}
use mathlib.Core.Bool.{Bool, true, false, cond, not}
use mathlib.Core.List.Memᴰ
use mathlib.Core.List.{List, [], ◌∷◌, Memᴰ}
use lib.Dec.{eqb}
use borrow.Author.Tests.{ne_eqb}
use Rattle.lists.proofs.Bools.{by-test, true-false, not-true-false, not-false-true}
use Rattle.choice.specs.Choice.{best, best_in, filtered}

-- ---- members

module _ {A : Type 0} where
  mem-under : {a x : A} {l m : List A} → (Memᴰ a m → Memᴰ a l) → Memᴰ a (x ∷ m) → Memᴰ a (x ∷ l)
  mem-under f (Memᴰ.head e) = Memᴰ.head e
  mem-under f (Memᴰ.tail h) = Memᴰ.tail (f h)

  -- what a test keeps
  module _ (keep : A → Bool) where
    pub kept-true : (x : A) (l : List A) → keep x ≡ true → filtered keep (x ∷ l) ≡ x ∷ filtered keep l
    unfolding filtered
    kept-true x l e = rw e

    pub kept-false : (x : A) (l : List A) → keep x ≡ false → filtered keep (x ∷ l) ≡ filtered keep l
    unfolding filtered
    kept-false x l e = rw e

    pub mem-kept : (l : List A) {a : A} → Memᴰ a (filtered keep l) → Memᴰ a l
    unfolding filtered
    mem-kept [] h = h
    mem-kept (x ∷ l) h =
        by-test (keep x)
        (λ e. mem-under (mem-kept l) (rw (kept-true x l e) at h))
        (λ e. Memᴰ.tail (mem-kept l (rw (kept-false x l e) at h)))

    pub kept-mem : {a : A} {l : List A} → keep a ≡ true → Memᴰ a l → Memᴰ a (filtered keep l)
    unfolding filtered
    kept-mem k (Memᴰ.head e) = rw (ap keep (sym e) ∙ k) (Memᴰ.head e)
    kept-mem k (Memᴰ.tail {x = x} m) = Memᴰ.append_right (cond (keep x) (x ∷ []) []) (kept-mem k m)

-- ---- the walk, step by step

module _ {A : Type 0} (better : A → A → Bool) where
  pub best_none : (x : A) → best better x [] ≡ x
  unfolding best
  best_none x = refl

  pub best-wins : (x y : A) (l : List A) → better y x ≡ true → best better x (y ∷ l) ≡ best better y l
  unfolding best
  best-wins x y l e = rw e

  pub best-stays : (x y : A) (l : List A) → better y x ≡ false → best better x (y ∷ l) ≡ best better x l
  unfolding best
  best-stays x y l e = rw e

  pub best_in-cons : (d x : A) (l : List A) → best_in better d (x ∷ l) ≡ best better x l
  unfolding best_in
  best_in-cons d x l = refl

  -- the best is in the list
  mem-walk : {a x y : A} {l : List A} (t : Bool) → Memᴰ a (cond t y x ∷ l) → Memᴰ a (x ∷ y ∷ l)
  mem-walk true m = Memᴰ.tail m
  mem-walk false (Memᴰ.head e) = Memᴰ.head e
  mem-walk false (Memᴰ.tail m) = Memᴰ.tail (Memᴰ.tail m)

  pub best-in : (x : A) (l : List A) → Memᴰ (best better x l) (x ∷ l)
  unfolding best
  best-in x [] = Memᴰ.head refl
  best-in x (y ∷ l) = mem-walk (better y x) (best-in (cond (better y x) y x) l)

-- ---- strict orders that tell keys apart

-- an order in which no two elements of different keys are level
pub record Order {A : Type 0} (key : A → ℕ) (better : A → A → Bool) : Type 0 where
  pub asym : (a b : A) → better a b ≡ true → better b a ≡ false
  pub trans : (a b c : A) → better a b ≡ true → better b c ≡ true → better a c ≡ true
  pub tells : (a b : A) → better a b ≡ false → better b a ≡ false → key a ≡ key b

module _ {A : Type 0} (key : A → ℕ) where
  -- elements of l that have one key are one element (it may stand in l more than once)
  abbrev pub Unique : List A → Type 0
  Unique l = (a b : A) → Memᴰ a l → Memᴰ b l → key a ≡ key b → a ≡ b

  pub unique-sub : {l m : List A} → ((a : A) → Memᴰ a m → Memᴰ a l) → Unique l → Unique m
  unique-sub f u a b h k e = u a b (f a h) (f b k) e

module _ {A : Type 0} (key : A → ℕ) (better : A → A → Bool) (o : Order key better) where
  irreflexive : (a : A) → better a a ≡ false
  irreflexive a = not-true-false (λ p. true-false p (o.asym a a p))

  -- what is worse than z is no better than an m that z is no better than
  worse : (z w m : A) → better z w ≡ true → better z m ≡ false → better w m ≡ false
  worse z w m p q = not-true-false (λ r. true-false (o.trans z w m p r) q)

  -- one step of the walk: nothing that was passed is better than m
  top-step : (x y m : A) (l : List A) → Unique key (x ∷ y ∷ l) → (t : Bool) → better y x ≡ t
      → ((b : A) → Memᴰ b (cond t y x ∷ l) → better b m ≡ false) → (b : A) → Memᴰ b (x ∷ y ∷ l) → better b m ≡ false
  top-step x y m l u true p ih b (Memᴰ.head e) = ap (λ (a : A). better a m) e ∙ worse y x m p (ih y (Memᴰ.head refl))
  top-step x y m l u true p ih b (Memᴰ.tail h) = ih b h
  top-step x y m l u false p ih b (Memᴰ.head e) = ih b (Memᴰ.head e)
  top-step x y m l u false p ih b (Memᴰ.tail (Memᴰ.head e)) =
      ap (λ (a : A). better a m) e
      ∙ by-test (better x y)
      (λ q. worse x y m q (ih x (Memᴰ.head refl)))
      (λ q. ih y (Memᴰ.head (u y x (Memᴰ.tail (Memᴰ.head refl)) (Memᴰ.head refl) (o.tells y x p q))))
  top-step x y m l u false p ih b (Memᴰ.tail (Memᴰ.tail h)) = ih b (Memᴰ.tail h)

  -- no element of the list is better than the best
  pub best-top : (x : A) (l : List A) → Unique key (x ∷ l) → (b : A) → Memᴰ b (x ∷ l) → better b (best better x l) ≡ false
  unfolding best
  best-top x [] u b h = ap (λ (a : A). better a x) (Memᴰ.eq_of_singleton h) ∙ irreflexive x
  best-top x (y ∷ l) u b h =
      let z = cond (better y x) y x in
      top-step x y (best better z l) l u (better y x) refl (best-top z l (unique-sub key (λ a. mem-walk better (better y x)) u)) b h

  module _ (x : A) (l : List A) (u : Unique key (x ∷ l)) where
    -- an element with another key is worse
    pub best-beats : (b : A) → Memᴰ b (x ∷ l) → (key b ≡ key (best better x l) → ⊥) → better (best better x l) b ≡ true
    best-beats b h n = not-false-true (λ p. n (o.tells b (best better x l) (best-top x l u b h) p))

    -- it is the only element than which none is better
    pub best-only : (a : A) → Memᴰ a (x ∷ l) → ((b : A) → Memᴰ b (x ∷ l) → better b a ≡ false) → a ≡ best better x l
    best-only a h n =
        let m = best better x l in
        u a m h (best-in better x l) (o.tells a m (best-top x l u a h) (n m (best-in better x l)))

  -- the same for a list that may be empty
  pub best_in-only : (d a : A) (l : List A) → Unique key l → Memᴰ a l → ((b : A) → Memᴰ b l → better b a ≡ false) → best_in better d l ≡ a
  best_in-only d a [] u h n = absurd (Memᴰ.not-nil h)
  best_in-only d a (x ∷ l) u h n = best_in-cons better d x l ∙ sym (best-only x l u a h n)

  module _ (d x : A) (l : List A) (u : Unique key (x ∷ l)) where
    -- losers may go: a list of some of the elements, the best among them
    pub best-fewer : (m : List A) → ((b : A) → Memᴰ b m → Memᴰ b (x ∷ l)) → Memᴰ (best better x l) m → best_in better d m ≡ best better x l
    best-fewer m f h = best_in-only d (best better x l) m (unique-sub key f u) h (λ b k. best-top x l u b (f b k))

    pub best-kept : (keep : A → Bool) → keep (best better x l) ≡ true → best_in better d (filtered keep (x ∷ l)) ≡ best better x l
    best-kept keep k = best-fewer (filtered keep (x ∷ l)) (λ b. mem-kept keep (x ∷ l)) (kept-mem keep k (best-in better x l))

    -- in particular those of one key that is not the best's
    pub best-without : (k : ℕ) → (key (best better x l) ≡ k → ⊥) → best_in better d (filtered (λ (a : A). not (eqb (key a) k)) (x ∷ l)) ≡ best better x l
    best-without k n = best-kept (λ (a : A). not (eqb (key a) k)) (ap not (ne_eqb (key (best better x l)) k n))
