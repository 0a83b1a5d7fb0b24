-- The fields of an Ethernet Segment route, read and written (document 01, "The route"; document 02, M-105). What lies where is said in `route`.
--   read_as n p d e f a        == the reader's answer with these fields
--   told_fields r              == the answer that the reader's result r is
--   read_route s               == the reader's answer
--   bits_of r                  == how many bits the address r has in a route
--   route_octets d e r         == the octets of the route with these three fields
--   write_route_number d e r n  == the writer's answer, for a buffer of n octets
--   route_written b d e r      == what a buffer holds after the writer, where it held b
use Rattle.std.specs.Prelude.{ℕ, ◌-◌, ◌/◌, cond, not, List, [], ◌∷◌, ◌++◌, length, take, drop, replicate, ltb, eqb, Result, Ok, Err}
use Rattle.lists.specs.Checks.{first_refusal}
use Rattle.address.specs.Address.{family_of, octets_of_address, is_zero}
use Rattle.esi.specs.Reserved.{reserved}
use Rattle.refusals.specs.Refusals.{wrong_length, esi_reserved, address_zero, buffer_short}
use Rattle.route.specs.Route.{total_of, route_distinguisher, route_esi, route_address, route_number, route_offset}
use Rattle.refusals.specs.Numbers.{refusal_number}
use Rattle.refusals.specs.declared.RefusalAt.{RefusalAt}
use Rattle.route_fields.specs.declared.RouteRead.{RouteRead}
use Rattle.route_fields.specs.declared.RouteAnswer.{RouteAnswer}

-- a refusal's other numbers are zero, but for the offset
abbrev pub read_as : ℕ → ℕ → List ℕ → List ℕ → ℕ → List ℕ → RouteAnswer
read_as n p d e f a = record { number = n; offset = p; distinguisher = d; esi = e; family = f; address = a }

abbrev pub told_fields : Result RouteRead RefusalAt → RouteAnswer
told_fields (Ok x) = read_as 0 0 x.distinguisher x.esi x.family x.address
told_fields (Err r) = read_as (refusal_number r.refusal) r.offset (replicate 8 0) (replicate 10 0) 0 (replicate 16 0)

unfoldable pub read_route : List ℕ → RouteAnswer
read_route s =
    cond (eqb (route_number s) 0)
    (read_as 0 0 (route_distinguisher s) (route_esi s) (family_of (route_address s)) (octets_of_address (route_address s)))
    (read_as (route_number s) (route_offset s) (replicate 8 0) (replicate 10 0) 0 (replicate 16 0))

-- WRITING
unfoldable pub bits_of : List ℕ → ℕ
bits_of r = cond (eqb (family_of r) 6) 128 32

unfoldable pub route_octets : List ℕ → List ℕ → List ℕ → List ℕ
route_octets d e r = 4 ∷ (total_of (bits_of r) - 2) ∷ d ++ (e ++ bits_of r ∷ take (bits_of r / 8) (octets_of_address r))

unfoldable pub write_route_number : List ℕ → List ℕ → List ℕ → ℕ → ℕ
write_route_number d e r n =
    first_refusal (
    (not (eqb (length d) 8), wrong_length)
    ∷ (reserved e, esi_reserved)
    ∷ (is_zero r, address_zero)
    ∷ (ltb n (total_of (bits_of r)), buffer_short)
    ∷ []
    )

unfoldable pub route_written : List ℕ → List ℕ → List ℕ → List ℕ → List ℕ
route_written b d e r = cond (eqb (write_route_number d e r (length b)) 0) (route_octets d e r ++ drop (total_of (bits_of r)) b) b
