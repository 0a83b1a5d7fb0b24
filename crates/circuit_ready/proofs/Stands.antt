-- A route at a place: its row is compared in two parts, the kind and the tag, and the address; a route that stands at a place stands. Assumes nothing.
use Prim.Native.Nat.{ℕ, zero, suc, ◌+◌, ◌*◌, ◌^◌, ◌≤◌, ◌<◌}
use native.Mathlib.Nat.{suc-mul, mul-le-mul_right}
use native.Mathlib.Omega.{arith}
use mathlib.Core.Path.{◌≡◌, refl, ap, ap₂, ◌∙◌, sym}
use mathlib.Core.Bool.{Bool, true, false, ◌&&◌}
use mathlib.Core.List.{List, [], ◌∷◌, ◌++◌}
use lib.ListN.{length, get_or, take, drop, length-drop}
use lib.Seq.{take-add, drop-drop, length-take-le}
use lib.Dec.{ltb, eqb}
use borrow.Author.Tests.{ltb-true, eqb-true, lt-ltb, le-ltb, eq-eqb, ne_eqb}
use Rattle.lists.proofs.Bools.{true-false}
use Rattle.lists.specs.Lists.{bit}
use Rattle.lists.proofs.Numbers.{either, whether, ordered}
use Rattle.keyed.specs.Keyed.{rank}
use Rattle.keyed.proofs.Keyed.{rank-above, present-of}
use Rattle.address.specs.Address.{IsAddress, ipv4, ipv6}
use Rattle.address.proofs.Laws.{length-address}
use Rattle.rows.specs.Rows.{row_key, key_order}
use Rattle.std.specs.declared.cmp.Ordering.{Ordering}
use Rattle.std.specs.Ordering.{is_eq}
use Rattle.rows.proofs.Compared.{order-less, order_same, order-more, Words, words-part, key-lt, key-append}
use Rattle.rows.proofs.Places.{found_at, look-here}
use Rattle.circuit_layout.specs.Circuits.{per_segment, per_instance, circuits_in, ValidCircuits}
use Rattle.circuit_layout.proofs.Words.{length-valid, short, route-row}
use Rattle.circuit_ready.specs.Routers.{stands, stands_at, ready_for}

abbrev base : ℕ
base = 4294967296

-- TWO TESTS, the second made only where the first holds
pub first-fails : (a b : Bool) {p : Bool} → p ≡ a → p ≡ false → false ≡ (a && b)
first-fails a b e h = rw (sym e ∙ h)

pub first_holds : (a b : Bool) {p q : Bool} → p ≡ a → p ≡ true → q ≡ b → q ≡ (a && b)
first_holds a b e h f = f ∙ rw (sym e ∙ h)

-- ONE COMPARISON says whether two keys are equal
pub told_same : (m n : ℕ) {o : Ordering} → o ≡ key_order m n → is_eq o ≡ eqb m n
told_same m n e =
    rw e (
    ordered m n
    (λ h. rw (order-less h, ne_eqb m n (λ z. omega arith)))
    (λ h. rw (order_same h, eq-eqb m n h))
    (λ h. rw (order-more h, ne_eqb m n (λ z. omega arith))))

-- KEYS IN TWO PARTS
-- two numbers with the low digits u and v are equal if the high ones are, and the low ones
same_digits : (p m n u v : ℕ) → u < p → v < p → eqb (m * p + u) (n * p + v) ≡ (eqb m n && eqb u v)
same_digits p m n u v h k =
    ordered m n
    (λ l. rw (ne_eqb m n (λ e. omega arith), ne_eqb (m * p + u) (n * p + v) (λ e. omega (arith, suc-mul m p, mul-le-mul_right p l))))
    (λ e. rw (e, eq-eqb n n refl) (
    whether u v
    (λ q. rw (q, eq-eqb v v refl, eq-eqb (n * p + v) (n * p + v) refl))
    (λ q. rw (ne_eqb u v q, ne_eqb (n * p + u) (n * p + v) (λ z. q (omega arith))))))
    (λ l. rw (ne_eqb m n (λ e. omega arith), ne_eqb (m * p + u) (n * p + v) (λ e. omega (arith, suc-mul n p, mul-le-mul_right p l))))

-- rows in two parts are equal if both parts are
same_parts : (a b x y : List ℕ) → length b ≡ length y → Words b → Words y → eqb (row_key (a ++ b)) (row_key (x ++ y)) ≡ (eqb (row_key a) (row_key x) && eqb (row_key b) (row_key y))
same_parts a b x y n o q =
    ap₂ eqb (key-append a b ∙ ap (λ (k : ℕ). row_key a * base ^ k + row_key b) n) (key-append x y)
    ∙ same_digits (base ^ length y) (row_key a) (row_key x) (row_key b) (row_key y) (rw n at (key-lt b o)) (key-lt y q)

-- THE ROW OF AN ADDRESS, word by word
pub five-words : (r : List ℕ) → IsAddress r → get_or r 0 0 ∷ get_or r 1 0 ∷ get_or r 2 0 ∷ get_or r 3 0 ∷ get_or r 4 0 ∷ [] ≡ r
five-words r (ipv4 a e) = rw e
five-words r (ipv6 a b c d e) = rw e

-- A PLACE of a table of A-D routes
module _ (b : List ℕ) (h : ValidCircuits b) (i : ℕ) where
  abbrev routes : List (List ℕ)
  routes = circuits_in b

  -- no route stands past the last
  pub past-last : (r : List ℕ) → length routes ≤ i → false ≡ stands_at routes i r
  unfolding stands_at
  past-last r l = rw (le-ltb i (length routes) l)

  -- the two parts of its row, which starts at word a, are in the table
  module _ (a : ℕ) (s : a ≡ i * 7) (l : i < length routes) where
    pub head-fits : a + 2 ≤ length b
    head-fits = omega (arith, short b h, length-valid b h)

    pub rest-fits : (r : List ℕ) → IsAddress r → a + 2 + length r ≤ length b
    rest-fits r g = omega (arith, short b h, length-valid b h, length-address r g)

    -- they decide
    pub parts-decide : (x y : ℕ) (r : List ℕ) → IsAddress r → Words b → Words r
        → stands_at routes i (x ∷ y ∷ r) ≡ (eqb (row_key (take 2 (drop a b))) (row_key (x ∷ y ∷ [])) && eqb (row_key (take (length r) (drop (a + 2) b))) (row_key r))
    unfolding stands_at
    parts-decide x y r g o q =
        let five = length-address r g in
        let low = take (length r) (drop (a + 2) b) in
        let n : length low ≡ length r = length-take-le (length r) (drop (a + 2) b) (simp length-drop (omega (arith, rest-fits r g))) in
        let row : get_or routes i [] ≡ take 2 (drop a b) ++ low =
        sym (route-row b h i l) ∙ ap (λ (k : ℕ). take 7 (drop k b)) (sym s) ∙ take-add 2 5 (drop a b) ∙ ap₂ (λ (k : ℕ) (w : List ℕ). take 2 (drop a b) ++ take k w) (sym five) (drop-drop 2 a b) in
        rw (lt-ltb i (length routes) l, row) (same_parts (take 2 (drop a b)) low (x ∷ y ∷ []) r n (words-part (length r) (a + 2) b o) q)

  -- a route that stands at a place stands, and the place is one of the table's
  pub at-stands : (r : List ℕ) → stands_at routes i r ≡ true → (i < length routes) × (stands routes r ≡ true)
  unfolding stands_at
  at-stands r e = go (ltb i (length routes)) (eqb (row_key (get_or routes i [])) (row_key r)) refl refl e
    where
      go : (p q : Bool) → ltb i (length routes) ≡ p → eqb (row_key (get_or routes i [])) (row_key r) ≡ q → (p && q) ≡ true → (i < length routes) × (stands routes r ≡ true)
      go true true l k z =
          let m = ltb-true i (length routes) l in
          (m, (found_at row_key (row_key r) routes i (sym (look-here row_key (row_key r) routes 0 [] h.sound.rising i m (eqb-true (row_key (get_or routes i [])) (row_key r) k)))).0)
      go true false l k z = absurd (true-false z refl)
      go false q l k z = absurd (true-false z refl)

-- A ROUTER whose two routes stand is ready
pub ready-stands : (c : List (List ℕ)) (tag : ℕ) (a : List ℕ) {p q : Bool} → p ≡ stands c (per_segment a) → q ≡ stands c (per_instance tag a) → (p && q) ≡ ready_for c tag a
unfolding ready_for
ready-stands c tag a e f = ap₂ (λ (x y : Bool). x && y) e f

-- so it is where they stand at two places
pub ready_at : (b : List ℕ) → ValidCircuits b → (tag i j : ℕ) (a : List ℕ) {p : Bool} → p ≡ (stands_at (circuits_in b) i (per_segment a) && stands_at (circuits_in b) j (per_instance tag a)) → p ≡ true
    → (i < length (circuits_in b)) × (j < length (circuits_in b)) × (true ≡ ready_for (circuits_in b) tag a)
ready_at b h tag i j a e t = go _ _ refl refl (sym e ∙ t)
  where
    go : (p q : Bool) → stands_at (circuits_in b) i (per_segment a) ≡ p → stands_at (circuits_in b) j (per_instance tag a) ≡ q → (p && q) ≡ true
        → (i < length (circuits_in b)) × (j < length (circuits_in b)) × (true ≡ ready_for (circuits_in b) tag a)
    go true true l m z =
        let x = at-stands b h i (per_segment a) l in
        let y = at-stands b h j (per_instance tag a) m in
        (x.0, y.0, ready-stands (circuits_in b) tag a {p = true} {q = true} (sym x.1) (sym y.1))
    go true false l m z = absurd (true-false z refl)
    go false q l m z = absurd (true-false z refl)

-- THE PLACE after a router's per-segment route, or where it would stand, is not behind that of its per-instance route
rank_mono : (m n : ℕ) (c : List (List ℕ)) → m ≤ n → rank row_key m c ≤ rank row_key n c
unfolding rank
rank_mono m n [] h = omega arith
rank_mono m n (x ∷ c) h =
    either (row_key x) m
    (λ l. let ih = rank_mono m n c h in rw (lt-ltb (row_key x) m l, lt-ltb (row_key x) n (omega arith)) (omega (arith, ih)))
    (λ l. rw (le-ltb (row_key x) m l) (omega arith))

kinds-rise : (tag : ℕ) (a : List ℕ) → Words (0 ∷ a) → row_key (per_segment a) < row_key (per_instance tag a)
unfolding row_key
kinds-rise tag a o = let l = key-lt (0 ∷ a) o in omega (arith, l)

pub segment-first : (b : List ℕ) → ValidCircuits b → (tag : ℕ) (a : List ℕ) → Words a → (q : Bool) {p : Bool} {i j : ℕ}
    → p ≡ stands (circuits_in b) (per_segment a)
    → i ≡ rank row_key (row_key (per_segment a)) (circuits_in b) + bit p
    → j ≡ rank row_key (row_key (per_instance tag a)) (circuits_in b) + bit q
    → i ≤ j
segment-first b h tag a o q {p} {i} {j} e x y = go p e x
  where
    zero-first : (k : ℕ) → get_or (0 ∷ a) k 0 < 4294967296
    zero-first zero = omega arith
    zero-first (suc k) = o k

    go : (p : Bool) → p ≡ stands (circuits_in b) (per_segment a) → i ≡ rank row_key (row_key (per_segment a)) (circuits_in b) + bit p → i ≤ j
    go true e x =
        let r = present-of row_key (row_key (per_segment a)) (circuits_in b) 0 [] h.sound.rising (sym e) in
        let l = kinds-rise tag a zero-first in
        let z = rank-above row_key (row_key (per_instance tag a)) (circuits_in b) 0 (rank row_key (row_key (per_segment a)) (circuits_in b)) [] h.sound.rising r.0 (rw r.1 l) in
        omega (arith, x, y, z)
    go false e x =
        let l = kinds-rise tag a zero-first in
        let z = rank_mono (row_key (per_segment a)) (row_key (per_instance tag a)) (circuits_in b) (omega (arith, l)) in
        omega (arith, x, y, z)
