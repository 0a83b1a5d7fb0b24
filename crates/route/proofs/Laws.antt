-- Laws of `specs/Route.antt`: which check gives the number, what an accepted route has, and that a written route reads back. Assumes nothing.
use Prim.Native.Nat.{ℕ, zero, suc, ◌-◌, ◌≤◌, ◌<◌}
use native.Mathlib.Omega.{arith}
use mathlib.Core.Path.{◌≡◌, refl, ap, ◌∙◌, sym, subst}
use mathlib.Core.Bool.{Bool, true, false, cond, not, ◌||◌}
use mathlib.Core.List.{List}
use lib.ListN.{length, get_or, take, drop}
use lib.Dec.{eqb}
use borrow.Author.Tests.{not-false, not-true, eq-eqb, ne_eqb, eqb-true, eqb-false, le-ltb, lt-ltb, ltb-true}
use Rattle.lists.proofs.Bools.{cond-by, not-false-true, eq-not, ne-not, not-eq, or_left, or_right}
use Rattle.lists.proofs.Checks.{refused-at, refused_none, passed, each}
use Rattle.address.specs.Address.{address_row, IsAddress, is_zero}
use Rattle.address.specs.declared.Address.{Address}
use Rattle.address.proofs.Laws.{row-address}
use Rattle.esi.specs.Reserved.{reserved}
use Rattle.esi.proofs.Laws.{length-not-reserved}
use Rattle.route.specs.Route.{total_of, route_total, ipv4_in, ipv6_in, route_esi, route_originator, route_address, route_number, offset_of, route_offset, Fault, none, total, length_octet, type, bits, identifier, zero_address, checked_number, checked_offset, checked_address, route_value, route_checked, Checked, Originator, Refused}

-- a route has at least 25 octets
pub total-least : (b : ℕ) → 25 ≤ total_of b
unfolding total_of
total-least b = cond-by (λ (n : ℕ). 25 ≤ n) (eqb b 128) (λ _. omega arith) (λ _. omega arith)

pub total-most : (b : ℕ) → total_of b ≤ 37
unfolding total_of
total-most b = cond-by (λ (n : ℕ). n ≤ 37) (eqb b 128) (λ _. omega arith) (λ _. omega arith)

-- the length of an address in bits is right or not, and the total that goes by it
module _ (b : ℕ) where
  pub bits-32 : b ≡ 32 → (eqb b 32 || eqb b 128) ≡ true
  bits-32 e = rw e

  pub bits-128 : b ≡ 128 → (eqb b 32 || eqb b 128) ≡ true
  bits-128 e = rw e

  pub bits-wrong : (b ≡ 32 → ⊥) → (b ≡ 128 → ⊥) → (eqb b 32 || eqb b 128) ≡ false
  bits-wrong m n = rw (ne_eqb b 32 m, ne_eqb b 128 n)

  pub total-32 : b ≡ 32 → total_of b ≡ 25
  unfolding total_of
  total-32 e = rw e

  pub total-128 : b ≡ 128 → total_of b ≡ 37
  unfolding total_of
  total-128 e = rw e

neither : (a m n : ℕ) → not (eqb a m || eqb a n) ≡ true → (a ≡ m → ⊥) × (a ≡ n → ⊥)
neither a m n h =
    let f = not-true _ h in
    (eqb-false a m (or_left (eqb a m) (eqb a n) f), eqb-false a n (or_right (eqb a m) (eqb a n) f))

-- WHAT THE PLACE OF EVERY ROUTE TELLS
module _ (s : List ℕ) where
  fault-total : (length s ≡ route_total s → ⊥) → Fault s 1 (offset_of 1 s)
  unfolding offset_of
  fault-total n = rw (ne_eqb (length s) (route_total s) n) (total refl refl n)

  fault-length : (not (eqb (length s) (route_total s)) || not (eqb (get_or s 1 0) (route_total s - 2))) ≡ true → Fault s 1 (offset_of 1 s)
  unfolding offset_of
  fault-length = go (eqb (length s) (route_total s)) refl
    where
      go : (b : Bool) → eqb (length s) (route_total s) ≡ b → (not b || not (eqb (get_or s 1 0) (route_total s - 2))) ≡ true → Fault s 1 (cond b 1 (length s))
      go true e h = length_octet refl refl (eqb-true _ _ e) (not-eq h)
      go false e h = total refl refl (eqb-false _ _ e)

  fault-bits : not (eqb (get_or s 20 0) 32 || eqb (get_or s 20 0) 128) ≡ true → Fault s 3 (offset_of 3 s)
  unfolding offset_of
  fault-bits h = let n = neither _ 32 128 h in bits refl refl n.0 n.1

  pub route-fault : Fault s (route_number s) (route_offset s)
  unfolding route_number offset_of route_esi
  route-fault =
      each (λ (n : ℕ). Fault s n (offset_of n s)) _
      (λ h. fault-total (λ e. omega (arith, ltb-true (length s) 21 h, total-least (get_or s 20 0), e)), (λ h. type refl refl (not-eq h), (fault-bits, (fault-length, (identifier refl refl, (zero_address refl refl, none refl refl))))))

-- WHAT THE CHECK ANSWERS
module _ (s : List ℕ) where
  abbrev pub Answers : Checked → Type 0
  Answers c =
      (c ≡ route_checked s)
      × ((checked_number c ≡ route_number s)
      × ((checked_offset c ≡ route_offset s)
      × ((checked_address c ≡ route_value s) × Fault s (checked_number c) (checked_offset c))))

  refused : (n p : ℕ) → suc n ≡ route_number s → p ≡ offset_of (suc n) s → Answers (Refused (suc n) p)
  unfolding route_checked route_value
  refused n p e q =
      let no = ne_eqb (suc n) 0 (λ z. omega arith) in
      (rw (← e, q, no), (e, (q ∙ ap (λ (m : ℕ). offset_of m s) e, (rw (← e, no), rw (q, e) (route-fault s)))))

  accepted : (a : Address) → a ≡ route_originator s → 0 ≡ route_number s → Answers (Originator a)
  unfolding route_checked route_value route_address offset_of
  accepted a q e = (rw (← e, q), (e, (rw (← e), (rw (← e, q), none refl refl))))

  wrong-total : (length s ≡ route_total s → ⊥) → 1 ≡ route_number s → Answers (Refused 1 (length s))
  unfolding offset_of
  wrong-total n e = refused 0 (length s) e (rw (ne_eqb (length s) (route_total s) n))

  pub short : length s < 21 → Answers (Refused 1 (length s))
  unfolding route_number
  short h = wrong-total (λ e. omega (arith, total-least (get_or s 20 0), e)) (refused-at 0 _ tt (lt-ltb _ _ h))

  module _ (l : 21 ≤ length s) where
    pub not-type : (get_or s 0 0 ≡ 4 → ⊥) → Answers (Refused 2 0)
    unfolding route_number offset_of
    not-type n = refused 1 0 (refused-at 1 _ (le-ltb _ _ l, tt) (ne-not n)) refl

    module _ (t : get_or s 0 0 ≡ 4) where
      pub not-bits : (eqb (get_or s 20 0) 32 || eqb (get_or s 20 0) 128) ≡ false → Answers (Refused 3 20)
      unfolding route_number offset_of
      not-bits n = refused 2 20 (refused-at 2 _ (le-ltb _ _ l, (eq-not t, tt)) (ap not n)) refl

      module _ (b : (eqb (get_or s 20 0) 32 || eqb (get_or s 20 0) 128) ≡ true) where
        pub not-total : (length s ≡ route_total s → ⊥) → Answers (Refused 1 (length s))
        unfolding route_number
        not-total n = wrong-total n (refused-at 3 _ (le-ltb _ _ l, (eq-not t, (ap not b, tt))) (rw (ne-not n)))

        module _ (w : length s ≡ route_total s) where
          pub not-length : (get_or s 1 0 ≡ route_total s - 2 → ⊥) → Answers (Refused 1 1)
          unfolding route_number offset_of
          not-length n =
              refused 0 1 (refused-at 3 _ (le-ltb _ _ l, (eq-not t, (ap not b, tt))) (rw (eq-not w) (ne-not n))) (rw (eq-eqb (length s) (route_total s) w))

          module _ (m : get_or s 1 0 ≡ route_total s - 2) where
            pub reserved-esi : reserved (take 10 (drop 10 s)) ≡ true → Answers (Refused 4 10)
            unfolding route_number route_esi offset_of
            reserved-esi r = refused 3 10 (refused-at 4 _ (le-ltb _ _ l, (eq-not t, (ap not b, (rw (eq-not w) (eq-not m), tt)))) r) refl

            module _ (r : reserved (take 10 (drop 10 s)) ≡ false) (a : Address) (q : a ≡ route_originator s) where
              pub zero-address : is_zero (address_row a) ≡ true → Answers (Refused 6 21)
              unfolding route_number route_esi route_address offset_of
              zero-address z =
                  refused 5 21 (refused-at 5 _ (le-ltb _ _ l, (eq-not t, (ap not b, (rw (eq-not w) (eq-not m), (r, tt))))) (rw (← q) z)) refl

              pub originates : is_zero (address_row a) ≡ false → Answers (Originator a)
              unfolding route_number route_esi route_address
              originates z =
                  accepted a q (refused_none _ (le-ltb _ _ l, (eq-not t, (ap not b, (rw (eq-not w) (eq-not m), (r, (rw (← q) z, tt)))))))

-- what each case says, of the answer itself
module _ (s : List ℕ) where
  answers_by : (n : ℕ) → n ≡ route_number s → Answers s (route_checked s)
  answers_by zero e = let a = accepted s (route_originator s) refl e in subst (Answers s) a.0 a
  answers_by (suc n) e = let a = refused s n (offset_of (suc n) s) e refl in subst (Answers s) a.0 a

  pub answers : (c : Checked) → c ≡ route_checked s → Answers s c
  answers c e = subst (Answers s) (sym e) (answers_by (route_number s) refl)

-- THE ORIGINATOR
module _ (s : List ℕ) where
  -- a route of the right length has 37 octets exactly if its address has 128 bits
  pub bits-six : length s ≡ route_total s → length s ≡ 37 → get_or s 20 0 ≡ 128
  unfolding total_of
  bits-six e n =
      eqb-true (get_or s 20 0) 128 (not-false-true (λ f. let m : route_total s ≡ 25 = rw f in omega (arith, e, n, m)))

  pub bits-four : length s ≡ route_total s → (length s ≡ 37 → ⊥) → get_or s 20 0 ≡ 128 → ⊥
  unfolding total_of
  bits-four e n b = n (e ∙ rw (eq-eqb (get_or s 20 0) 128 b))

  pub total-four : length s ≡ route_total s → 25 ≤ length s
  total-four e = omega (arith, e, total-least (get_or s 20 0))

  pub originator-six : get_or s 20 0 ≡ 128 → ipv6_in s ≡ route_originator s
  unfolding route_originator
  originator-six b = rw (eq-eqb (get_or s 20 0) 128 b)

  pub originator-four : (get_or s 20 0 ≡ 128 → ⊥) → ipv4_in s ≡ route_originator s
  unfolding route_originator
  originator-four n = rw (ne_eqb (get_or s 20 0) 128 n)

-- what the code of the originator goes by
pub ruleset originators = (bits-six, bits-four, total-four, originator-six, originator-four)

pub route-is-address : (s : List ℕ) → IsAddress (route_address s)
unfolding route_address
route-is-address s = row-address (route_originator s)

-- WHAT AN ACCEPTED ROUTE HAS, from the number alone
module _ (s : List ℕ) (h : route_number s ≡ 0) where
  pub route-length : 25 ≤ length s
  unfolding route_number
  route-length =
      let e : length s ≡ route_total s = eqb-true _ _ (not-false _ (or_left _ _ (passed _ refl h).1.1.1.0)) in
      omega (arith, e, total-least (get_or s 20 0))

  pub route-esi : reserved (route_esi s) ≡ false
  unfolding route_number
  route-esi = (passed _ refl h).1.1.1.1.0

  pub route-address : is_zero (route_address s) ≡ false
  unfolding route_number
  route-address = (passed _ refl h).1.1.1.1.1.0

  pub length-esi : length (route_esi s) ≡ 10
  length-esi = length-not-reserved (route_esi s) route-esi

-- what the check's answer says
originator-told : (n p : ℕ) (a b : Address) (e : Bool) → cond e (Originator a) (Refused n p) ≡ Originator b → (e ≡ true) × (b ≡ a)
originator-told n p a b true h = (refl, cc)
originator-told n p a b false h = let z : ◌≡◌ {A = ℕ} 0 1 = cc in absurd (omega arith)

refused-told : (n p : ℕ) (a : Address) (m q : ℕ) (e : Bool) → cond e (Originator a) (Refused n p) ≡ Refused m q → (e ≡ false) × ((m ≡ n) × (q ≡ p))
refused-told n p a m q true h = let z : ◌≡◌ {A = ℕ} 0 1 = cc in absurd (omega arith)
refused-told n p a m q false h = (refl, (cc, cc))

module _ (s : List ℕ) where
  -- an accepted route has offset 0
  pub offset-accepted : route_number s ≡ 0 → route_offset s ≡ 0
  unfolding offset_of
  offset-accepted h = rw h

  pub told-originator : (a : Address) → route_checked s ≡ Originator a → (route_number s ≡ 0) × (a ≡ route_originator s)
  unfolding route_checked
  told-originator a h =
      let t = originator-told (route_number s) (route_offset s) (route_originator s) a (eqb (route_number s) 0) h in
      (eqb-true (route_number s) 0 t.0, t.1)

  pub told-refused : (n p : ℕ) → route_checked s ≡ Refused n p → (route_number s ≡ 0 → ⊥) × ((n ≡ route_number s) × (p ≡ route_offset s))
  unfolding route_checked
  told-refused n p h =
      let t = refused-told (route_number s) (route_offset s) (route_originator s) n p (eqb (route_number s) 0) h in
      (eqb-false (route_number s) 0 t.0, t.1)
