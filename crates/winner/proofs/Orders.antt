-- The order of candidates by score and address is document 01's order, and document 01's order tells addresses apart. Assumes nothing.
use Prim.Native.Nat.{ℕ, ◌+◌, ◌-◌, ◌*◌, ◌<◌}
use native.Mathlib.Omega.{arith}
use mathlib.Core.Path.{◌≡◌, ap₂, ◌∙◌, sym}
use mathlib.Core.Bool.{Bool, true, false, cond, not, ◌&&◌}
use lib.Dec.{ltb, eqb}
use borrow.Author.Tests.{lt-ltb, le-ltb}
use Rattle.lists.specs.Lists.{bit}
use Rattle.lists.proofs.Bools.{bit-less, cond-by}
use Rattle.lists.proofs.Numbers.{either, ordered}
use Rattle.layout.specs.Table.{Entry, entry_key}
use Rattle.layout.proofs.Words.{Narrow}
use Rattle.address.specs.Address.{address_number}
use Rattle.hrw.specs.Weight.{weight_of}
use Rattle.choice.specs.Choice.{decided, by_score}
use Rattle.choice.proofs.Laws.{Order}
use Rattle.choice.proofs.Criteria.{criterion-higher, criterion-lower, criterion-flagged, order-lower, order-then, order-by_score}
use Rattle.winner.specs.Winner.{by_weight, by_preference, better}
use Rattle.winner.specs.Steps.{score_of}

order-preference : (lowest : Bool) → Order entry_key (by_preference lowest)
order-preference true = order-then _ _ entry_key (criterion-lower (λ (e : Entry). e.preference)) (order-then _ _ entry_key (criterion-flagged (λ (e : Entry). e.dp)) (order-lower entry_key))
order-preference false = order-then _ _ entry_key (criterion-higher (λ (e : Entry). e.preference)) (order-then _ _ entry_key (criterion-flagged (λ (e : Entry). e.dp)) (order-lower entry_key))

pub order-better : (a d : ℕ) → Order entry_key (better a d)
unfolding better
order-better a d =
    cond-by (Order entry_key) (eqb a 1) (λ _. order-by_score (λ (e : Entry). weight_of (address_number e.address) d) entry_key) (λ _. order-preference (eqb a 3))

-- under algorithms other than 1 the digest plays no part
pub better-any : (a d f : ℕ) → eqb a 1 ≡ false → better a d ≡ better a f
unfolding better
better-any a d f n = rw n

-- and all of them but 3 go as 2
pub better-two : (a d : ℕ) → eqb a 1 ≡ false → eqb a 3 ≡ false → better a d ≡ better 2 d
unfolding better
better-two a d n t = rw (n, t)

-- A SCORE: preference and DP as one number decide as the two criteria do
abbrev with_bit : ℕ → Bool → ℕ
with_bit p b = p * 2 + bit b

module _ (p q : ℕ) where
  with-higher : (b c : Bool) (r : Bool) → decided (ltb q p) (ltb p q) (decided (b && not c) (c && not b) r) ≡ decided (ltb (with_bit q c) (with_bit p b)) (ltb (with_bit p b) (with_bit q c)) r
  with-higher b c r =
      let s = bit-less b in
      let t = bit-less c in
      ordered p q
      (λ h. rw (le-ltb q p (omega arith), lt-ltb p q h, le-ltb (with_bit q c) (with_bit p b) (omega arith), lt-ltb (with_bit p b) (with_bit q c) (omega arith)))
      (λ h. rw (le-ltb q p (omega arith), le-ltb p q (omega arith)) (level h b c))
      (λ h. rw (lt-ltb q p h, lt-ltb (with_bit q c) (with_bit p b) (omega arith)))
    where
      level : p ≡ q → (b c : Bool) → decided (b && not c) (c && not b) r ≡ decided (ltb (with_bit q c) (with_bit p b)) (ltb (with_bit p b) (with_bit q c)) r
      level h true true = rw (le-ltb (with_bit q true) (with_bit p true) (omega arith), le-ltb (with_bit p true) (with_bit q true) (omega arith))
      level h true false = rw (lt-ltb (with_bit q false) (with_bit p true) (omega arith))
      level h false true = rw (le-ltb (with_bit q true) (with_bit p false) (omega arith), lt-ltb (with_bit p false) (with_bit q true) (omega arith))
      level h false false = rw (le-ltb (with_bit q false) (with_bit p false) (omega arith), le-ltb (with_bit p false) (with_bit q false) (omega arith))

-- counted from above, the lower number is the higher
from-above : (p q : ℕ) → p < 65536 → q < 65536 → ltb p q ≡ ltb (65535 - q) (65535 - p)
from-above p q h k =
    either p q
    (λ l. lt-ltb p q l ∙ sym (lt-ltb (65535 - q) (65535 - p) (omega arith)))
    (λ l. le-ltb p q l ∙ sym (le-ltb (65535 - q) (65535 - p) (omega arith)))

-- numbers doubled stand as the numbers
doubled : (m n : ℕ) → ltb m n ≡ ltb (2 * m) (2 * n)
doubled m n =
    either m n
    (λ l. lt-ltb m n l ∙ sym (lt-ltb (2 * m) (2 * n) (omega arith)))
    (λ l. le-ltb m n l ∙ sym (le-ltb (2 * m) (2 * n) (omega arith)))

pub better-score : (a d : ℕ) (x y : Entry) → Narrow x → Narrow y → better a d x y ≡ by_score (score_of a d) entry_key x y
unfolding better score_of
better-score a d x y h k = go (eqb a 1) (eqb a 3)
  where
    go : (b c : Bool) → cond b (by_weight d) (by_preference c) x y
        ≡ decided
        (ltb (cond b (2 * weight_of (address_number y.address) d) (with_bit (cond c (65535 - y.preference) y.preference) y.dp)) (cond b (2 * weight_of (address_number x.address) d) (with_bit (cond c (65535 - x.preference) x.preference) x.dp)))
        (ltb (cond b (2 * weight_of (address_number x.address) d) (with_bit (cond c (65535 - x.preference) x.preference) x.dp)) (cond b (2 * weight_of (address_number y.address) d) (with_bit (cond c (65535 - y.preference) y.preference) y.dp)))
        (ltb (entry_key x) (entry_key y))
    go true c =
        let m = weight_of (address_number x.address) d in
        let n = weight_of (address_number y.address) d in
        ap₂ (λ (s t : Bool). decided s t (ltb (entry_key x) (entry_key y))) (doubled n m) (doubled m n)
    go false true =
        ap₂ (λ (s t : Bool). decided s t (decided (x.dp && not y.dp) (y.dp && not x.dp) (ltb (entry_key x) (entry_key y))))
        (from-above x.preference y.preference h k) (from-above y.preference x.preference k h)
        ∙ with-higher (65535 - x.preference) (65535 - y.preference) x.dp y.dp (ltb (entry_key x) (entry_key y))
    go false false = with-higher x.preference y.preference x.dp y.dp (ltb (entry_key x) (entry_key y))
