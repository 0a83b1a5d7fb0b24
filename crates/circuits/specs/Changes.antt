-- The calls of the table of Ethernet A-D routes (document 02, M-102): their checks in order, their answers, and the routes that they leave.
--   ad_announce_number s a p n  == 0, or the number of the first check that refuses an announcement of the scope s and the address a, where p tells whether the
--                                route is present and n are present
--   ad_withdraw_number s a p    == the same for a withdrawal
--   AdChange                  == what a call answers, a number, and the routes that then stand
--   ad_changed n old new       == the answer n, and the new routes if n is 0 and else the old ones
--   ad_announced l s a, ad_withdrawn l s a  == the answers of the two calls, where the routes l stand
--   AdTold c n b              == the number n and the routes in the words b are what the call's answer c says
use Rattle.std.specs.Prelude.{ℕ, ◌≡◌, Bool, cond, not, ◌||◌, List, [], ◌∷◌, length, ltb, eqb}
use Rattle.lists.specs.Checks.{first_refusal}
use Rattle.keyed.specs.Keyed.{has, insert, remove}
use Rattle.rows.specs.Rows.{row_key}
use Rattle.address.specs.Address.{is_zero}
use Rattle.circuit_layout.specs.declared.Scope.{Scope}
use Rattle.circuit_layout.specs.Circuits.{ad_row, reserved_scope, circuits_in}
use Rattle.refusals.specs.Refusals.{address_zero, tag_reserved, table_full, not_present}

-- CHECKS, in their order; a per-segment route has no tag that could be reserved
unfoldable pub ad_announce_number : Scope → List ℕ → Bool → ℕ → ℕ
ad_announce_number s a present n =
    first_refusal (
    (is_zero a, address_zero)
    ∷ (reserved_scope s, tag_reserved)
    ∷ (not (present || ltb n 256), table_full)
    ∷ []
    )

unfoldable pub ad_withdraw_number : Scope → List ℕ → Bool → ℕ
ad_withdraw_number s a present =
    first_refusal (
    (is_zero a, address_zero)
    ∷ (reserved_scope s, tag_reserved)
    ∷ (not present, not_present)
    ∷ []
    )

-- ANSWERS: a refused call leaves the routes as it got them; a withdrawal takes the one route of its kind, tag and address
pub record AdChange : Type 0 where
  pub number : ℕ
  pub routes : List (List ℕ)

abbrev pub ad_changed : ℕ → List (List ℕ) → List (List ℕ) → AdChange
ad_changed n old new = record { number = n; routes = cond (eqb n 0) new old }

unfoldable pub ad_announced : List (List ℕ) → Scope → List ℕ → AdChange
ad_announced l s a = ad_changed (ad_announce_number s a (has row_key (row_key (ad_row s a)) l) (length l)) l (insert row_key (ad_row s a) l)

unfoldable pub ad_withdrawn : List (List ℕ) → Scope → List ℕ → AdChange
ad_withdrawn l s a = ad_changed (ad_withdraw_number s a (has row_key (row_key (ad_row s a)) l)) l (remove row_key (row_key (ad_row s a)) l)

-- what a call answers and leaves: a number, and routes in the words. Where the words are valid, this decides every one of them
abbrev pub AdTold : AdChange → ℕ → List ℕ → Type 0
AdTold c n b = (n ≡ c.number) × (circuits_in b ≡ c.routes)
