-- What a search finds in a list, over any element and key: whether the key is there, and where. Assumes nothing.
use Prim.Native.Nat.{ℕ, ◌≤◌, ◌<◌}
use native.Mathlib.Omega.{arith}
use mathlib.Core.Path.{◌≡◌, refl, ◌∙◌}
use mathlib.Core.Bool.{Bool, true, false}
use mathlib.Core.List.{List}
use lib.ListN.{length, get_or, set}
use Rattle.keyed.specs.Keyed.{spliced, without_at, Rising, has, rank, insert, remove}
use Rattle.keyed.proofs.Keyed as keyed
use Rattle.rows.specs.Rows.{found_in}
use Rattle.std.specs.Prelude.{Result, Ok, Err}
use Rattle.rows.proofs.Compared.{never}

module _ {A : Type 0} (key : A → ℕ) (m : ℕ) (l : List A) where
  found-by : (b : Bool) {P : Type 0} (f : Result ℕ ℕ) → has key m l ≡ b → found_in key m l ≡ f
      → (has key m l ≡ true → Ok (rank key m l) ≡ f → P) → (has key m l ≡ false → Err (rank key m l) ≡ f → P) → P
  unfolding found_in
  found-by true f h e there none = there h (rw h at e)
  found-by false f h e there none = none h (rw h at e)

  pub found_at : (i : ℕ) → found_in key m l ≡ Ok i → (has key m l ≡ true) × (rank key m l ≡ i)
  found_at i e = found-by (has key m l) (Ok i) refl e (λ h q. (h, cc)) (λ h q. never (cc))

  pub found-missing : (i : ℕ) → found_in key m l ≡ Err i → (has key m l ≡ false) × (rank key m l ≡ i)
  found-missing i e = found-by (has key m l) (Err i) refl e (λ h q. never (cc)) (λ h q. (h, cc))

  -- insertion and removal at the place that a search found
  pub insert-missing : (e d : A) (i : ℕ) → key e ≡ m → found_in key m l ≡ Err i → insert key e l ≡ spliced l i e
  insert-missing e d i q f =
      let k = found-missing i f in
      keyed.insert-absent key e l d (keyed.absent-of key (key e) l d (rw q k.0)) ∙ rw (q, k.1)

  module _ (n : ℕ) (d : A) (r : Rising key n l) where
    pub insert-at : (e : A) (i : ℕ) → key e ≡ m → found_in key m l ≡ Ok i → insert key e l ≡ set l i e
    insert-at e i q f =
        let k = found_at i f in
        keyed.insert-present key e l d (keyed.present-of key (key e) l n d r (rw q k.0)) ∙ rw (q, k.1)

    pub remove-at : (i : ℕ) → found_in key m l ≡ Ok i → remove key m l ≡ without_at l i
    remove-at i f =
        let k = found_at i f in
        keyed.remove-present key m l d (keyed.present-of key m l n d r k.0) ∙ rw k.1

  pub missing-le : (i : ℕ) → found_in key m l ≡ Err i → i ≤ length l
  missing-le i e = omega (arith, keyed.rank-le key m l, (found-missing i e).1)

  module _ (n : ℕ) (d : A) (r : Rising key n l) where
    -- the key stands at the place that is found
    pub present-at : (i : ℕ) → found_in key m l ≡ Ok i → (i < length l) × (key (get_or l i d) ≡ m)
    present-at i e = rw (found_at i e).1 at (keyed.present-of key m l n d r (found_at i e).0)

    pub at_lt : (i : ℕ) → found_in key m l ≡ Ok i → i < length l
    at_lt i e = (present-at i e).0

    -- a look at one element
    pub look-less : (i : ℕ) → i < length l → key (get_or l i d) < m → i < rank key m l
    look-less i h q = keyed.rank-above key m l n i d r h q

    pub look-more : (i : ℕ) → i < length l → m < key (get_or l i d) → rank key m l ≤ i
    look-more i h q = keyed.rank_below key m l i d h (omega arith)

    pub look-here : (i : ℕ) → i < length l → key (get_or l i d) ≡ m → Ok i ≡ found_in key m l
    unfolding found_in
    look-here i h q =
        let e : rank key m l ≡ i = keyed.rank-at key m l n i d r h q in
        let p : keyed.Present key m l d = rw e (h, q) in
        rw (keyed.has-present key m l d p, e)

    -- nothing is left to look at
    pub look_none : (i : ℕ) → rank key m l ≡ i → (i < length l → m < key (get_or l i d)) → Err i ≡ found_in key m l
    unfolding found_in
    look_none i e q =
        let p : keyed.Present key m l d → ⊥ = λ w. let v = rw e at w in omega (arith, q v.0, v.1) in
        rw (keyed.has-absent key m l n d r p, e)
