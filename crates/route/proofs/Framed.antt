-- What `check_framed` answers for a route of type 4 whose address length is right, case by case. Assumes nothing.
use Prim.Native.Nat.{ℕ, ◌-◌, ◌≤◌}
use mathlib.Core.Path.{◌≡◌, refl, sym}
use mathlib.Core.Bool.{true, false, ◌||◌}
use mathlib.Core.List.{List}
use lib.ListN.{length, get_or, take, drop}
use lib.Dec.{eqb}
use Rattle.address.specs.Address.{address_row, is_zero}
use Rattle.esi.specs.Reserved.{reserved}
use Rattle.route.specs.Route.{route_total, route_originator, route_checked, Originator, Refused}
use Rattle.route.proofs.Laws.{not-total, not-length, reserved-esi, zero-address, originates}

module _ (s : List ℕ) (l : 21 ≤ length s) (t : get_or s 0 0 ≡ 4) (b : (eqb (get_or s 20 0) 32 || eqb (get_or s 20 0) 128) ≡ true) where
  pub total_told : (length s ≡ route_total s → ⊥) → route_checked s ≡ Refused 1 (length s)
  total_told n = sym (not-total s l t b n).0

  module _ (w : length s ≡ route_total s) where
    pub length_told : (get_or s 1 0 ≡ route_total s - 2 → ⊥) → route_checked s ≡ Refused 1 1
    length_told n = sym (not-length s l t b w n).0

    module _ (m : get_or s 1 0 ≡ route_total s - 2) where
      pub reserved_told : reserved (take 10 (drop 10 s)) ≡ true → route_checked s ≡ Refused 4 10
      reserved_told r = sym (reserved-esi s l t b w m r).0

      module _ (r : reserved (take 10 (drop 10 s)) ≡ false) where
        pub zero_told : is_zero (address_row (route_originator s)) ≡ true → route_checked s ≡ Refused 6 21
        zero_told z = sym (zero-address s l t b w m r (route_originator s) refl z).0

        pub originator_told : is_zero (address_row (route_originator s)) ≡ false → route_checked s ≡ Originator (route_originator s)
        originator_told z = sym (originates s l t b w m r (route_originator s) refl z).0

pub ruleset checks_told = (total_told, length_told, reserved_told, zero_told, originator_told)
