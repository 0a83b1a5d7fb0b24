-- Who is ready for a tag by its Ethernet A-D routes (document 02, M-102; RFC 8584, section 4).
--   stands c r            == whether the route r is among the routes c
--   stands_at c i r        == whether the route r stands at place i of the routes c
--   ready_for c tag a      == whether the router of the address a is ready for the tag: both its routes stand, per segment and per instance
--   ready_routers c tag l  == the addresses of the ready routers that stand in the route table with the entries l
use Rattle.std.specs.Prelude.{ℕ, Bool, ◌&&◌, List, [], map, length, get_or, ltb, eqb}
use Rattle.keyed.specs.Keyed.{has}
use Rattle.rows.specs.Rows.{row_key}
use Rattle.layout.specs.Table.{Entry}
use Rattle.circuit_layout.specs.Circuits.{per_segment, per_instance}
use Rattle.places.specs.Places.{picked}

abbrev pub stands : List (List ℕ) → List ℕ → Bool
stands c r = has row_key (row_key r) c

unfoldable pub stands_at : List (List ℕ) → ℕ → List ℕ → Bool
stands_at c i r = ltb i (length c) && eqb (row_key (get_or c i [])) (row_key r)

unfoldable pub ready_for : List (List ℕ) → ℕ → List ℕ → Bool
ready_for c tag a = stands c (per_segment a) && stands c (per_instance tag a)

unfoldable pub ready_routers : List (List ℕ) → ℕ → List Entry → List (List ℕ)
ready_routers c tag l = map (λ e. e.address) (picked (map (λ e. ready_for c tag e.address) l) l)
