-- The Ethernet Segment route (document 01, "The route"; document 02, M-105). 0 is the type, 4; 1 the length of the rest; 2 to 9 the route distinguisher; 10 to
-- 19 the segment identifier (ESI); 20 the address length in bits, 32 or 128; then the originator's address, high octet first: 21 to 24, or 21 to 36. So a
-- route has 25 octets or 37.
--   total_of b                 == how many octets a route has whose address has b bits: 37 for 128, else 25
--   route_total s              == how many octets the route s should have
--   ipv4_in s, ipv6_in s        == the address of each family that the octets from offset 21 on say
--   route_distinguisher s, route_esi s, route_originator s  == the three fields of the route s
--   route_address s            == the originator's address as a row of words, which is what an address is in every definition
--   route_number s             == 0, or the number of the first check that refuses the route s
--   offset_of n s              == the offset that the number n speaks of in the route s (document 02, M-103)
--   route_offset s             == the offset that the route's number speaks of
--   Fault s n p               == what the number n and the offset p tell of the route s: what stands at p is wrong
--   Checked                    == the check's answer: the originator's address, or a refusal number and the offset that it speaks of
--   told_check r               == the answer that the check's result r is
--   checked_number c           == document 01's number for each case of the check's answer
--   checked_offset c           == the offset for each case: 0 with an address
--   checked_address c          == document 01's value for each case: the originator's address, or none with a refusal
--   route_value s              == document 01's value for the route s: its address where it is accepted, else none
--   route_checked s            == the check's answer
use Rattle.std.specs.Prelude.{ℕ, ◌-◌, ◌≡◌, true, cond, not, ◌||◌, List, [], ◌∷◌, length, get_or, take, drop, ltb, eqb, Result, Ok, Err}
use Rattle.lists.specs.Checks.{first_refusal}
use Rattle.octets.specs.Octets.{word_at}
use Rattle.address.specs.Address.{address_row, is_zero}
use Rattle.address.specs.declared.Address.{Address}
use Rattle.address.specs.declared.Family.TheVariants.{V4, V6}
use Rattle.esi.specs.Reserved.{reserved}
use Rattle.refusals.specs.Refusals.{wrong_length, wrong_type, wrong_address_length, esi_reserved, address_zero}
use Rattle.refusals.specs.Numbers.{refusal_number}
use Rattle.refusals.specs.declared.RefusalAt.{RefusalAt}

unfoldable pub route_distinguisher : List ℕ → List ℕ
route_distinguisher s = take 8 (drop 2 s)

unfoldable pub route_esi : List ℕ → List ℕ
route_esi s = take 10 (drop 10 s)

unfoldable pub total_of : ℕ → ℕ
total_of b = cond (eqb b 128) 37 25

abbrev pub route_total : List ℕ → ℕ
route_total s = total_of (get_or s 20 0)

unfoldable pub ipv4_in : List ℕ → Address
ipv4_in s = record { family = V4; w0 = word_at 21 s; w1 = 0; w2 = 0; w3 = 0 }

unfoldable pub ipv6_in : List ℕ → Address
ipv6_in s = record { family = V6; w0 = word_at 21 s; w1 = word_at 25 s; w2 = word_at 29 s; w3 = word_at 33 s }

unfoldable pub route_originator : List ℕ → Address
route_originator s = cond (eqb (get_or s 20 0) 128) (ipv6_in s) (ipv4_in s)

unfoldable pub route_address : List ℕ → List ℕ
route_address s = address_row (route_originator s)

-- the checks, in their order
unfoldable pub route_number : List ℕ → ℕ
route_number s =
    first_refusal (
    (ltb (length s) 21, wrong_length)
    ∷ (not (eqb (get_or s 0 0) 4), wrong_type)
    ∷ (not (eqb (get_or s 20 0) 32 || eqb (get_or s 20 0) 128), wrong_address_length)
    ∷ (not (eqb (length s) (route_total s)) || not (eqb (get_or s 1 0) (route_total s - 2)), wrong_length)
    ∷ (reserved (route_esi s), esi_reserved)
    ∷ (is_zero (route_address s), address_zero)
    ∷ []
    )

-- for 1 the number of octets where that is wrong, else 1, the length octet; 0 for 2, 20 for 3, 10 for 4, 21 for 6; 0 if accepted
unfoldable pub offset_of : ℕ → List ℕ → ℕ
offset_of n s =
    cond (eqb n wrong_length) (cond (eqb (length s) (route_total s)) 1 (length s))
    (cond (eqb n wrong_address_length) 20
    (cond (eqb n esi_reserved) 10
    (cond (eqb n address_zero) 21
    0)))

abbrev pub route_offset : List ℕ → ℕ
route_offset s = offset_of (route_number s) s

-- what the offset tells the person who looks at the octets: one case for each row of the rule
pub data Fault (s : List ℕ) (n p : ℕ) : Type 0 where
  none : n ≡ 0 → p ≡ 0 → Fault s n p
  total : n ≡ wrong_length → p ≡ length s → (length s ≡ route_total s → ⊥) → Fault s n p
  length_octet : n ≡ wrong_length → p ≡ 1 → length s ≡ route_total s → (get_or s p 0 ≡ route_total s - 2 → ⊥) → Fault s n p
  type : n ≡ wrong_type → p ≡ 0 → (get_or s p 0 ≡ 4 → ⊥) → Fault s n p
  bits : n ≡ wrong_address_length → p ≡ 20 → (get_or s p 0 ≡ 32 → ⊥) → (get_or s p 0 ≡ 128 → ⊥) → Fault s n p
  identifier : n ≡ esi_reserved → p ≡ 10 → reserved (take 10 (drop p s)) ≡ true → Fault s n p
  zero_address : n ≡ address_zero → p ≡ 21 → is_zero (route_address s) ≡ true → Fault s n p

pub data Checked : Type 0 where
  Originator : Address → Checked
  Refused : ℕ → ℕ → Checked

abbrev pub told_check : Result Address RefusalAt → Checked
told_check (Ok a) = Originator a
told_check (Err r) = Refused (refusal_number r.refusal) r.offset

abbrev pub checked_number : Checked → ℕ
checked_number (Originator a) = 0
checked_number (Refused n p) = n

abbrev pub checked_offset : Checked → ℕ
checked_offset (Originator a) = 0
checked_offset (Refused n p) = p

abbrev pub checked_address : Checked → List ℕ
checked_address (Originator a) = address_row a
checked_address (Refused n p) = []

unfoldable pub route_value : List ℕ → List ℕ
route_value s = cond (eqb (route_number s) 0) (route_address s) []

unfoldable pub route_checked : List ℕ → Checked
route_checked s = cond (eqb (route_number s) 0) (Originator (route_originator s)) (Refused (route_number s) (route_offset s))
