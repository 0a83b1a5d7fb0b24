-- Members: an insertion under a new key keeps them, and the best of the entries is a member than which none is better. Assumes nothing.
use Prim.Native.Nat.{ℕ}
use mathlib.Core.Path.{◌≡◌, refl, sym}
use mathlib.Core.Bool.{false}
use mathlib.Core.List.Memᴰ
use mathlib.Core.List.{List, [], ◌∷◌, Memᴰ}
use native.Mathlib.Omega.{arith}
use lib.ListN.{length}
use lib.Dec.{eqb}
use borrow.Author.Tests.{eqb-false}
use Rattle.lists.proofs.Bools.{or_left, or_right}
use Rattle.lists.proofs.Numbers.{ordered}
use Rattle.keyed.specs.Keyed.{has, insert}
use Rattle.keyed.proofs.Order.{insert-less, insert-more}
use Rattle.choice.proofs.Laws.{Unique, best-in, best-top, best_in-cons}
use Rattle.layout.specs.Table.{Entry, entry_key, no_entry}
use Rattle.winner.specs.Winner.{better}
use Rattle.winner.proofs.Orders.{order-better}
use Rattle.returning.specs.Returning.{reference}

module _ {A : Type 0} where
  pub some-mem : {x : A} (l : List A) → Memᴰ x l → length l ≡ 0 → ⊥
  some-mem [] m z = Memᴰ.not-nil m
  some-mem (y ∷ l) m z = omega arith

  mem-under : {x y : A} {l m : List A} → (Memᴰ x l → Memᴰ x m) → Memᴰ x (y ∷ l) → Memᴰ x (y ∷ m)
  mem-under f (Memᴰ.head e) = Memᴰ.head e
  mem-under f (Memᴰ.tail h) = Memᴰ.tail (f h)

  pub mem-insert : (key : A → ℕ) (e : A) (l : List A) → has key (key e) l ≡ false → {x : A} → Memᴰ x l → Memᴰ x (insert key e l)
  unfolding has
  mem-insert key e [] h m = absurd (Memᴰ.not-nil m)
  mem-insert key e (y ∷ l) h m =
      ordered (key e) (key y)
      (λ k. rw (insert-less key e y l k) (Memᴰ.tail m))
      (λ k. absurd (eqb-false (key y) (key e) (or_left (eqb (key y) (key e)) (has key (key e) l) h) (sym k)))
      (λ k. rw (insert-more key e y l k) (mem-under (mem-insert key e l (or_right (eqb (key y) (key e)) (has key (key e) l) h)) m))

-- THE BEST under an algorithm
pub reference-in : (a : ℕ) (l : List Entry) → (length l ≡ 0 → ⊥) → Memᴰ (reference a l) l
reference-in a [] n = absurd (n refl)
reference-in a (x ∷ l) n = rw (best_in-cons (better a 0) no_entry x l) (best-in (better a 0) x l)

pub reference-top : (a : ℕ) (l : List Entry) → Unique entry_key l → (x : Entry) → Memᴰ x l → better a 0 x (reference a l) ≡ false
reference-top a [] u x m = absurd (Memᴰ.not-nil m)
reference-top a (y ∷ l) u x m = rw (best_in-cons (better a 0) no_entry y l) (best-top entry_key (better a 0) (order-better a 0) y l u x m)
