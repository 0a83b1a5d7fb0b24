-- Laws of `specs/Payload.antt`: what an entry's words say, how long a payload is, and what its writers leave. Assumes nothing.
use Prim.Native.Nat.{ℕ, ◌+◌, ◌*◌, ◌/◌, ◌%◌, ◌≤◌, ◌<◌}
use native.Mathlib.Omega.{arith}
use mathlib.Core.Path.{◌≡◌, refl, ap, ap₂, sym, ◌∙◌}
use mathlib.Core.Bool.{Bool, true, false}
use mathlib.Core.List.{List, [], ◌∷◌, ◌++◌, append-nil}
use lib.ListN.{length, get_or, take, drop, replicate, length-append, length-drop, drop_of_length-le, get_or-append}
use lib.Seq.{take_at}
use lib.Dec.{eqb}
use borrow.Author.Tests.{eq-eqb, ne_eqb, le-ltb}
use Rattle.lists.specs.Lists.{bit}
use Rattle.lists.proofs.Checks.{refused_none}
use Rattle.octets.specs.Octets.{stored}
use Rattle.octets.proofs.Laws.{stored-after}
use Rattle.address.specs.Address.{IsAddress, ipv4, ipv6, family_of, address_words}
use Rattle.esi.specs.Reserved.{reserved}
use Rattle.esi.proofs.Laws.{length-not-reserved}
use Rattle.route.specs.Route.{total_of}
use Rattle.route.proofs.Laws.{total-least, total-most}
use Rattle.route_fields.specs.Fields.{bits_of, route_octets, write_route_number, route_written}
use Rattle.route_fields.proofs.Laws.{length_part, length-octets-route, bits-of}
use Rattle.community.specs.Community.{community_octets, write_number, community_written}
use Rattle.community.proofs.Laws.{length-community}
use Rattle.layout.specs.Table.{Entry, AddressRight}
use Rattle.log_payloads.specs.Payload.{election_of, payload_of}

-- AN ENTRY TAKEN FROM ITS WORDS
module _ (r w : List ℕ) (ra : IsAddress r) (e : w ≡ address_words r) where
  pub address-six : family_of r ≡ 6 → 6 ∷ get_or w 0 0 ∷ get_or w 1 0 ∷ get_or w 2 0 ∷ get_or w 3 0 ∷ [] ≡ r
  unfolding family_of address_words
  address-six f = go ra
    where
      go : IsAddress r → 6 ∷ get_or w 0 0 ∷ get_or w 1 0 ∷ get_or w 2 0 ∷ get_or w 3 0 ∷ [] ≡ r
      go (ipv4 a q) = let n = rw q at f in absurd (omega arith)
      go (ipv6 a b c d q) = rw (e, q)

  pub address-four : (family_of r ≡ 6 → ⊥) → 4 ∷ get_or w 0 0 ∷ 0 ∷ 0 ∷ 0 ∷ [] ≡ r
  unfolding family_of address_words
  address-four f = go ra
    where
      go : IsAddress r → 4 ∷ get_or w 0 0 ∷ 0 ∷ 0 ∷ 0 ∷ [] ≡ r
      go (ipv4 a q) = rw (e, q)
      go (ipv6 a b c d q) = absurd (f (ap (λ (l : List ℕ). get_or l 0 0) q))

-- a number and the bit behind it
pub half : (n : ℕ) (b : Bool) → (n * 2 + bit b) / 2 ≡ n
half n true = omega arith
half n false = omega arith

pub odd : (n : ℕ) (b : Bool) → eqb ((n * 2 + bit b) % 2) 1 ≡ b
odd n true = eq-eqb ((n * 2 + 1) % 2) 1 (omega arith)
odd n false = ne_eqb ((n * 2 + 0) % 2) 1 (λ h. omega (arith, h))

-- LENGTHS
length-route : (i : List ℕ) (r : List ℕ) → length i ≡ 10 → IsAddress r → length (route_octets (replicate 8 0) i r) ≡ total_of (bits_of r)
unfolding route_octets
length-route i r l ra = simp length-append (omega (arith, l, length_part r ra))

pub length-payload : (i : List ℕ) (e : Entry) → length i ≡ 10 → IsAddress e.address → length (payload_of i e) ≡ total_of (bits_of e.address) + 8
length-payload i e l ra = length-append (route_octets (replicate 8 0) i e.address) (community_octets (election_of e)) ∙ ap₂ (λ (m n : ℕ). m + n) (length-route i e.address l ra) (length-community (election_of e))

-- A PAYLOAD, put together from the route that was written and the community
module _ (i : List ℕ) (e : Entry) (re : reserved i ≡ false) (right : AddressRight e) where
  abbrev r : List ℕ
  r = e.address

  abbrev o : List ℕ
  o = route_octets (replicate 8 0) i r

  total : length o ≡ total_of (bits_of r)
  total = length-octets-route (replicate 8 0) i r refl re right.0

  accepted : (d : List ℕ) → length d ≡ 45 → 0 ≡ write_route_number (replicate 8 0) i r (length d)
  unfolding write_route_number
  accepted d l =
      let room : total_of (bits_of r) ≤ length d = omega (arith, l, total-most (bits_of r)) in
      refused_none _ (refl, (re, (right.1, (le-ltb (length d) (total_of (bits_of r)) room, tt))))

  -- what the route's writer leaves in a buffer of 45 octets
  route-left : (d b : List ℕ) → length d ≡ 45 → b ≡ route_written d (replicate 8 0) i r → b ≡ o ++ drop (total_of (bits_of r)) d
  unfolding route_written
  route-left d b l q = q ∙ rw (← accepted d l)

  module _ (d b : List ℕ) (l : length d ≡ 45) (q : b ≡ route_written d (replicate 8 0) i r) (n : ℕ) (t : n ≡ total_of (get_or b 20 0)) where
    bits : get_or b 20 0 ≡ bits_of r
    bits =
        let k : 20 < length o = omega (arith, total, total-least (bits_of r)) in
        ap (λ (x : List ℕ). get_or x 20 0) (route-left d b l q) ∙ get_or-append o (drop (total_of (bits_of r)) d) 0 20 k ∙ bits-of (replicate 8 0) i r refl re right.0

    total-is : n ≡ total_of (bits_of r)
    total-is = t ∙ ap total_of bits

    pub total-small : n + 8 ≤ 45
    total-small = omega (arith, total-is, total-most (bits_of r))

    pub payload-length : n + 8 ≡ length (payload_of i e)
    payload-length = ap (◌+ 8) total-is ∙ sym (length-payload i e (length-not-reserved i re) right.0)

    pub payload-taken : (c x : List ℕ) → c ≡ community_octets (election_of e) → x ≡ stored b n c → take (n + 8) x ≡ payload_of i e
    payload-taken c x f g =
        let z : List ℕ = drop (total_of (bits_of r)) d in
        let lc : length c ≡ 8 = ap length f ∙ length-community (election_of e) in
        let room : length c ≤ length z = rw (length-drop (total_of (bits_of r)) d) (omega (arith, lc, l, total-is, total-small)) in
        let put : x ≡ (o ++ c) ++ drop (length c) z =
        g ∙ ap (λ (y : List ℕ). stored y n c) (route-left d b l q) ∙ stored-after o z c n (total ∙ sym total-is) room in
        let m : length (o ++ c) ≡ n + 8 = length-append o c ∙ omega (arith, lc, total, total-is) in
        ap (take (n + 8)) put ∙ take_at (o ++ c) (drop (length c) z) (n + 8) m ∙ ap (o ++◌) f

-- A COMMUNITY, as its writer leaves it
pub community-left : (d b : List ℕ) (e : Entry) (a : ℕ) (ac dp : Bool) (p : ℕ) → length d ≡ 8 → a ≤ 31 → a ≡ e.algorithm → ac ≡ e.ac_df → dp ≡ e.dp → p ≡ e.preference
    → b ≡ community_written d a ac dp p → b ≡ community_octets (election_of e)
unfolding community_written write_number
community-left d b e a ac dp p l h ea eac edp ep q =
    let n : 0 ≡ write_number a (length d) = refused_none _ (le-ltb 31 a h, (le-ltb (length d) 8 (omega (arith, l)), tt)) in
    let z : drop 8 d ≡ [] = drop_of_length-le d {i = 8} (omega (arith, l)) in
    q ∙ rw (← n, z, ea, eac, edp, ep) (append-nil (community_octets (election_of e)))
