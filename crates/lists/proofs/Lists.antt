-- Laws of lists by their places, over any element. Assumes nothing.
use Prim.Native.Nat.{ℕ, zero, suc, ◌+◌, ◌<◌}
use native.Mathlib.Nat.{zero-add, suc-add, not-suc-le-zero, le_of_suc-le-suc}
use native.Mathlib.Numerals.{add-one}
use native.Mathlib.Omega.{arith}
use mathlib.Core.Path.{◌≡◌, refl, ap, sym, ◌∙◌, subst}
use mathlib.Core.Bool.{Bool, true, false, cond, and-false}
use mathlib.Core.List.{List, [], ◌∷◌, ◌++◌, map, Memᴰ, Permᴰ}
use lib.ListN.{length, get_or, set, take, drop}
use Rattle.lists.specs.Lists.{Every, all, tabulate}

pub perm-length {ℓ} : {A : Type ℓ} {l m : List A} → Permᴰ l m → length l ≡ length m
perm-length Permᴰ.nil = refl
perm-length (Permᴰ.cons q p) = ap suc (perm-length p)
perm-length (Permᴰ.swap q r) = refl
perm-length (Permᴰ.trans p q) = perm-length p ∙ perm-length q

module _ {A : Type 0} where
  pub empty : (l : List A) → length l ≡ 0 → l ≡ []
  empty [] q = refl
  empty (x ∷ l) q = absurd (omega arith)

  pub at_mem : (l : List A) (i : ℕ) (d : A) → i < length l → Memᴰ (get_or l i d) l
  at_mem [] i d h = absurd (not-suc-le-zero h)
  at_mem (x ∷ l) zero d h = Memᴰ.head refl
  at_mem (x ∷ l) (suc i) d h = Memᴰ.tail (at_mem l i d (le_of_suc-le-suc h))

  pub set-append-add : (xs ys : List A) (n i : ℕ) (v : A) → length xs ≡ n → set (xs ++ ys) (n + i) v ≡ xs ++ set ys i v
  set-append-add [] ys zero i v h = rw (zero-add i)
  set-append-add [] ys (suc n) i v h = absurd (omega arith)
  set-append-add (x ∷ xs) ys zero i v h = absurd (omega arith)
  set-append-add (x ∷ xs) ys (suc n) i v h = rw (suc-add n i) (ap (x ∷◌) (set-append-add xs ys n i v (omega arith)))

  -- EVERY ELEMENT
  module _ (P : A → Type 0) where
    pub every_take : (n : ℕ) (l : List A) → Every P l → Every P (take n l)
    unfolding Every
    every_take zero l h = tt
    every_take (suc n) [] h = tt
    every_take (suc n) (x ∷ l) h = (h.0, every_take n l h.1)

    pub every_drop : (n : ℕ) (l : List A) → Every P l → Every P (drop n l)
    unfolding Every
    every_drop zero l h = h
    every_drop (suc n) [] h = tt
    every_drop (suc n) (x ∷ l) h = every_drop n l h.1

    pub every_in : (l : List A) (i : ℕ) (d : A) → Every P l → i < length l → P (get_or l i d)
    unfolding Every
    every_in [] i d h n = absurd (not-suc-le-zero n)
    every_in (x ∷ l) zero d h n = h.0
    every_in (x ∷ l) (suc i) d h n = every_in l i d h.1 (le_of_suc-le-suc n)

    pub every-mem : (l : List A) → Every P l → (x : A) → Memᴰ x l → P x
    unfolding Every
    every-mem [] h x x4 = elim x4 [ ]
    every-mem (y ∷ l) h x (Memᴰ.head e) = subst P (sym e) h.0
    every-mem (y ∷ l) h x (Memᴰ.tail m) = every-mem l h.1 x m

    pub mem-every : (l : List A) → ((x : A) → Memᴰ x l → P x) → Every P l
    unfolding Every
    mem-every [] f = tt
    mem-every (y ∷ l) f = (f y (Memᴰ.head refl), mem-every l (λ x m. f x (Memᴰ.tail m)))

    pub every-place : (l : List A) (d : A) → ((i : ℕ) → i < length l → P (get_or l i d)) → Every P l
    unfolding Every
    every-place [] d f = tt
    every-place (x ∷ l) d f = (f 0 (omega arith), every-place l d (λ i h. f (suc i) (omega (arith, h))))

    pub every-at : (l : List A) (i : ℕ) (d : A) → P d → Every P l → P (get_or l i d)
    unfolding Every
    every-at [] i d z h = z
    every-at (x ∷ l) zero d z h = h.0
    every-at (x ∷ l) (suc i) d z h = every-at l i d z h.1

    -- one more of them, as a walk finds it
    pub every-next : (l : List A) (i : ℕ) (d : A) → i < length l → P (get_or l i d) → Every P (take i l) → Every P (take (i + 1) l)
    unfolding Every
    every-next l i d n p h = rw add-one (go l i n p h)
      where
        go : (l : List A) (i : ℕ) → i < length l → P (get_or l i d) → Every P (take i l) → Every P (take (suc i) l)
        go [] i n p h = absurd (omega arith)
        go (x ∷ l) zero n p h = (p, tt)
        go (x ∷ l) (suc i) n p h = (h.0, go l i (omega arith) p h.1)

    pub every-perm : {l m : List A} → Permᴰ l m → Every P l → Every P m
    unfolding Every
    every-perm Permᴰ.nil g = tt
    every-perm (Permᴰ.cons q h) g = (subst P q g.0, every-perm h g.1)
    every-perm (Permᴰ.swap q r) g = (subst P r g.1.0, (subst P q g.0, g.1.1))
    every-perm (Permᴰ.trans h k) g = every-perm k (every-perm h g)

  -- A TEST OF EVERY ELEMENT
  module _ (test : A → Bool) where
    pub all-each : (l : List A) (d : A) → ((i : ℕ) → i < length l → test (get_or l i d) ≡ true) → all test l ≡ true
    unfolding all
    all-each [] d h = refl
    all-each (x ∷ l) d h = rw (h 0 (omega arith)) (all-each l d (λ i k. h (suc i) (omega arith)))

    pub all-not : (l : List A) (i : ℕ) (d : A) → i < length l → test (get_or l i d) ≡ false → all test l ≡ false
    unfolding all
    all-not [] i d h n = absurd (not-suc-le-zero h)
    all-not (x ∷ l) zero d h n = rw n
    all-not (x ∷ l) (suc i) d h n = rw (all-not l i d (le_of_suc-le-suc h) n) (and-false (test x))

  -- TABULATED
  pub length-tabulate : (n : ℕ) (f : ℕ → A) → length (tabulate n f) ≡ n
  unfolding tabulate
  length-tabulate zero f = refl
  length-tabulate (suc n) f = ap suc (length-tabulate n (λ k. f (suc k)))

  pub get_d_tabulate : (n : ℕ) (f : ℕ → A) (i : ℕ) (d : A) → i < n → get_or (tabulate n f) i d ≡ f i
  unfolding tabulate
  get_d_tabulate zero f i d h = absurd (not-suc-le-zero h)
  get_d_tabulate (suc n) f zero d h = refl
  get_d_tabulate (suc n) f (suc i) d h = get_d_tabulate n (λ k. f (suc k)) i d (le_of_suc-le-suc h)

-- MAPPED
module _ {A B : Type 0} (f : A → B) where
  pub map-set : (l : List A) (i : ℕ) (x : A) → map f (set l i x) ≡ set (map f l) i (f x)
  map-set [] i x = refl
  map-set (y ∷ l) zero x = refl
  map-set (y ∷ l) (suc i) x = ap (f y ∷◌) (map-set l i x)

  pub map-take : (n : ℕ) (l : List A) → map f (take n l) ≡ take n (map f l)
  map-take zero l = refl
  map-take (suc n) [] = refl
  map-take (suc n) (x ∷ l) = ap (f x ∷◌) (map-take n l)

  pub map-drop : (n : ℕ) (l : List A) → map f (drop n l) ≡ drop n (map f l)
  map-drop zero l = refl
  map-drop (suc n) [] = refl
  map-drop (suc n) (x ∷ l) = map-drop n l

  pub map-cond : (b : Bool) (x y : List A) → map f (cond b x y) ≡ cond b (map f x) (map f y)
  map-cond true x y = refl
  map-cond false x y = refl

  pub get_d-map-in : (l : List A) (i : ℕ) (d : B) (e : A) → i < length l → get_or (map f l) i d ≡ f (get_or l i e)
  get_d-map-in [] i d e h = absurd (not-suc-le-zero h)
  get_d-map-in (x ∷ l) zero d e h = refl
  get_d-map-in (x ∷ l) (suc i) d e h = get_d-map-in l i d e (le_of_suc-le-suc h)
