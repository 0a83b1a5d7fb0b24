-- Who is left in a list when one is removed, and who of a list is picked, by membership; and that a list of ready routers names just the entries it is made of. Assumes nothing.
use Prim.Native.Nat.{ℕ, suc, ◌<◌}
use native.Mathlib.Omega.{arith}
use mathlib.Core.Path.{◌≡◌, refl, ap, sym, ◌∙◌, subst}
use mathlib.Core.Bool.{Bool, true, cond, or-true}
use mathlib.Core.List.Memᴰ
use mathlib.Core.List.{List, [], ◌∷◌, ◌++◌, map, Memᴰ}
use lib.ListN.{length, get_or}
use lib.Dec.{eqb}
use borrow.Author.Tests.{eq-eqb, eqb-true}
use Rattle.lists.specs.Lists.{all}
use Rattle.lists.proofs.Bools.{by-test, true-false, not-true-false}
use Rattle.ranges.proofs.Laws.{both}
use Rattle.places.specs.Places.{picked}
use Rattle.choice.specs.Choice.{filtered}
use Rattle.choice.proofs.Laws.{Unique, kept-true, kept-false, mem-kept, kept-mem}
use Rattle.address.specs.Address.{address_key}
use Rattle.layout.specs.Table.{Entry, entry_key}
use Rattle.ready.specs.Ready.{on_list, eligible, candidates}
use Rattle.circuit_ready.specs.Routers.{ready_for, ready_routers}

module _ {A : Type 0} where
  -- the place of a member
  pub mem-place : {a : A} {l : List A} (d : A) → Memᴰ a l → (i : ℕ) × ((i < length l) × (get_or l i d ≡ a))
  mem-place d (Memᴰ.head e) = (0, (omega arith, sym e))
  mem-place d (Memᴰ.tail m) = let (i, (h, e)) = mem-place d m in (suc i, (omega arith, e))

  -- A TEST OF ALL MEMBERS
  module _ (test : A → Bool) where
    pub all-members : (l : List A) → ((x : A) → Memᴰ x l → test x ≡ true) → all test l ≡ true
    unfolding all
    all-members [] h = refl
    all-members (x ∷ l) h = rw (h x (Memᴰ.head refl)) (all-members l (λ y m. h y (Memᴰ.tail m)))

    pub member-of-all : {x : A} {l : List A} → all test l ≡ true → Memᴰ x l → test x ≡ true
    unfolding all
    member-of-all {x = x} {l = []} h x6 = elim x6 [ ]
    member-of-all {x = x} {l = y ∷ l} h (Memᴰ.head e) = ap test e ∙ (both (test y) (all test l) h).0
    member-of-all {x = x} {l = y ∷ l} h (Memᴰ.tail m) = member-of-all {x = x} (both (test y) (all test l) h).1 m

    -- MEMBERS THAT A TEST PICKS
    picked-filtered : (l : List A) → picked (map test l) l ≡ filtered test l
    unfolding picked filtered
    picked-filtered [] = refl
    picked-filtered (x ∷ l) = ap (λ (m : List A). cond (test x) (x ∷ []) [] ++ m) (picked-filtered l)

    first-or : {y x : A} {m : List A} → (Memᴰ x m → test x ≡ true) → test y ≡ true → Memᴰ x (y ∷ m) → test x ≡ true
    first-or f e (Memᴰ.head p) = ap test p ∙ e
    first-or f e (Memᴰ.tail m) = f m

    kept_test : (l : List A) {x : A} → Memᴰ x (filtered test l) → test x ≡ true
    unfolding filtered
    kept_test [] h = absurd (Memᴰ.not-nil h)
    kept_test (y ∷ l) h =
        by-test (test y)
        (λ e. first-or (kept_test l) e (rw (kept-true test y l e) at h))
        (λ e. kept_test l (rw (kept-false test y l e) at h))

    pub picked_of : (l : List A) {x : A} → Memᴰ x (picked (map test l) l) → Memᴰ x l × (test x ≡ true)
    picked_of l m = let k = rw (picked-filtered l) at m in (mem-kept test l k, kept_test l k)

    pub picked-in : (l : List A) {x : A} → Memᴰ x l → test x ≡ true → Memᴰ x (picked (map test l) l)
    picked-in l m e = rw (picked-filtered l) (kept-mem test e m)

-- CANDIDATES are the eligible members
module _ (ac : Bool) (ready : List (List ℕ)) (l : List Entry) where
  pub candidate-of : {x : Entry} → Memᴰ x (candidates ac ready l) → Memᴰ x l × (eligible ac ready x ≡ true)
  unfolding candidates
  candidate-of m = picked_of (eligible ac ready) l m

  pub candidate-in : {x : Entry} → Memᴰ x l → eligible ac ready x ≡ true → Memᴰ x (candidates ac ready l)
  unfolding candidates
  candidate-in m e = picked-in (eligible ac ready) l m e

pub eligible-alike : (ac : Bool) (ready others : List (List ℕ)) (x : Entry) → on_list others x.address ≡ on_list ready x.address → eligible ac others x ≡ eligible ac ready x
unfolding eligible
eligible-alike ac ready others x e = rw e

-- THE LIST OF READY ROUTERS: an entry is on it exactly if it is ready
abbrev address_of : Entry → List ℕ
address_of e = e.address

listed_in : {x : Entry} {l : List Entry} → Memᴰ x l → on_list (map address_of l) x.address ≡ true
unfolding on_list
listed_in {x = x} {l = []} x3 = elim x3 [ ]
listed_in {x = x} {l = y ∷ l} (Memᴰ.head e) = rw (eq-eqb (address_key y.address) (address_key x.address) (ap entry_key (sym e)))
listed_in {x = x} {l = y ∷ l} (Memᴰ.tail m) = rw (listed_in {x = x} m) (or-true (eqb (address_key y.address) (address_key x.address)))

listed_of : (l : List Entry) (a : List ℕ) → on_list (map address_of l) a ≡ true → (y : Entry) × (Memᴰ y l × (entry_key y ≡ address_key a))
unfolding on_list
listed_of [] a h = absurd (true-false h refl)
listed_of (y ∷ l) a h =
    by-test (eqb (address_key y.address) (address_key a))
    (λ e. (y, (Memᴰ.head refl, eqb-true _ _ e)))
    (λ e. let (z, (m, k)) = listed_of l a (rw e at h) in (z, (Memᴰ.tail m, k)))

pub on-routers : (c : List (List ℕ)) (tag : ℕ) (l : List Entry) → Unique entry_key l → (x : Entry) → Memᴰ x l → on_list (ready_routers c tag l) x.address ≡ ready_for c tag x.address
unfolding ready_routers
on-routers c tag l u x m =
    by-test (ready_for c tag x.address)
    (λ e. listed_in (picked-in ready l m e) ∙ sym e)
    (λ e. not-true-false (λ h. true-false (its h) e) ∙ sym e)
  where
    ready : Entry → Bool
    ready y = ready_for c tag y.address

    its : on_list (map address_of (picked (map ready l) l)) x.address ≡ true → ready_for c tag x.address ≡ true
    its h =
        let (y, (k, e)) = listed_of (picked (map ready l) l) x.address h in
        let p = picked_of ready l k in
        subst (λ (z : Entry). ready z ≡ true) (u y x p.0 m e) p.1
