-- Whether the originator of an announcement is the address that is asked for, family by family and word by word. Assumes nothing.
use Prim.Native.Nat.{ℕ, ◌+◌, ◌%◌, ◌≤◌, ◌<◌}
use native.Mathlib.Omega.{arith}
use mathlib.Core.Path.{◌≡◌, refl, sym, ◌∙◌}
use mathlib.Core.Bool.{Bool, false, and-true, and-false}
use mathlib.Core.List.{List, [], ◌∷◌}
use lib.ListN.{length, get_or}
use lib.Dec.{eqb}
use borrow.Author.Tests.{eq-eqb, ne_eqb}
use Rattle.octets.specs.Octets.{number_of, word_at, same_numbers}
use Rattle.octets.proofs.Laws.{elements, number-four, word-elements}
use Rattle.address.specs.Address.{address_row}
use Rattle.address.specs.declared.Address.{Address}
use Rattle.address.specs.declared.Family.TheVariants.{V4, V6}
use Rattle.route.specs.Route.{total_of, route_address}
use Rattle.dumps.specs.Dumps.{route_in}
use Rattle.dumps.proofs.Counted.{total-25, total-37, named-ipv4, named-ipv6}

module _ (p : List ℕ) (h : total_of (get_or p 20 0) ≤ length p) where
  -- ---- against an IPv4 address

  pub four-other : (w : ℕ) → get_or p 20 0 ≡ 128 → false ≡ same_numbers (route_address (route_in p)) (4 ∷ w ∷ 0 ∷ 0 ∷ 0 ∷ [])
  unfolding same_numbers
  four-other w e = rw (named-ipv6 p h e)

  pub four_same : (v w : ℕ) → (get_or p 20 0 ≡ 128 → ⊥) → v ≡ number_of (elements 4 21 p) → eqb v w ≡ same_numbers (route_address (route_in p)) (4 ∷ w ∷ 0 ∷ 0 ∷ 0 ∷ [])
  unfolding same_numbers
  four_same v w n q = rw (named-ipv4 p h n, word-elements 21 v p (omega (arith, total-25 p h)) q) (sym (and-true (eqb (word_at 21 p) w)))

  -- another last octet
  pub four-octet : (w : ℕ) → (get_or p 20 0 ≡ 128 → ⊥) → get_or p 24 0 < 256 → (get_or p 24 0 ≡ w % 256 → ⊥) → false ≡ same_numbers (route_address (route_in p)) (4 ∷ w ∷ 0 ∷ 0 ∷ 0 ∷ [])
  four-octet w n l d =
      let v : ℕ = number_of (elements 4 21 p) in
      let k = number-four (get_or p 21 0) (get_or p 22 0) (get_or p 23 0) (get_or p 24 0) in
      sym (ne_eqb v w (λ e. d (omega (arith, e, k, l)))) ∙ four_same v w n refl

  -- ---- against an IPv6 address, from its last word on

  pub six-other : (a b c d : ℕ) → (get_or p 20 0 ≡ 128 → ⊥) → false ≡ same_numbers (route_address (route_in p)) (6 ∷ a ∷ b ∷ c ∷ d ∷ [])
  unfolding same_numbers
  six-other a b c d n = rw (named-ipv4 p h n)

  module _ (a b c d : ℕ) (e : get_or p 20 0 ≡ 128) where
    word : (i v : ℕ) → i + 4 ≤ 37 → v ≡ number_of (elements 4 i p) → v ≡ word_at i p
    word i v l q = word-elements i v p (omega (arith, total-37 p h e)) q

    pub six-fourth : (z : ℕ) → z ≡ number_of (elements 4 33 p) → (z ≡ d → ⊥) → false ≡ same_numbers (route_address (route_in p)) (6 ∷ a ∷ b ∷ c ∷ d ∷ [])
    unfolding same_numbers
    six-fourth z q n = rw (named-ipv6 p h e, ← word 33 z (omega arith) q, ne_eqb z d n, and-false, and-false, and-false)

    module _ (z : ℕ) (qz : z ≡ number_of (elements 4 33 p)) (ez : z ≡ d) where
      pub six-third : (y : ℕ) → y ≡ number_of (elements 4 29 p) → (y ≡ c → ⊥) → false ≡ same_numbers (route_address (route_in p)) (6 ∷ a ∷ b ∷ c ∷ d ∷ [])
      unfolding same_numbers
      six-third y q n = rw (named-ipv6 p h e, ← word 29 y (omega arith) q, ne_eqb y c n, and-false, and-false)

      module _ (y : ℕ) (qy : y ≡ number_of (elements 4 29 p)) (ey : y ≡ c) where
        pub six-second : (x : ℕ) → x ≡ number_of (elements 4 25 p) → (x ≡ b → ⊥) → false ≡ same_numbers (route_address (route_in p)) (6 ∷ a ∷ b ∷ c ∷ d ∷ [])
        unfolding same_numbers
        six-second x q n = rw (named-ipv6 p h e, ← word 25 x (omega arith) q, ne_eqb x b n, and-false)

        pub six-first : (x w : ℕ) → x ≡ number_of (elements 4 25 p) → x ≡ b → w ≡ number_of (elements 4 21 p) → eqb w a ≡ same_numbers (route_address (route_in p)) (6 ∷ a ∷ b ∷ c ∷ d ∷ [])
        unfolding same_numbers
        six-first x w qx ex q =
            rw (named-ipv6 p h e, ← word 33 z (omega arith) qz, ← word 29 y (omega arith) qy, ← word 25 x (omega arith) qx, ← word 21 w (omega arith) q, eq-eqb z d ez, eq-eqb y c ey, eq-eqb x b ex)
            (sym (and-true (eqb w a)))

-- ---- by family

module _ (r : List ℕ) (a : Address) (t : Bool) where
  pub named-4 : a.family ≡ V4 → t ≡ same_numbers r (4 ∷ a.w0 ∷ 0 ∷ 0 ∷ 0 ∷ []) → t ≡ same_numbers r (address_row a)
  unfolding address_row
  named-4 e q = rw e q

  pub named-6 : a.family ≡ V6 → t ≡ same_numbers r (6 ∷ a.w0 ∷ a.w1 ∷ a.w2 ∷ a.w3 ∷ []) → t ≡ same_numbers r (address_row a)
  unfolding address_row
  named-6 e q = rw e q
