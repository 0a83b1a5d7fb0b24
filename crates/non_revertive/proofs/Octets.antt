-- What a table reads of the octets that a returning router has written: its own address, its own algorithm with AC-DF clear, and the pair that it was told to send. Assumes nothing.
use Prim.Native.Nat.{ℕ, ◌≤◌, ◌<◌}
use mathlib.Core.Path.{◌≡◌, ap, ◌∙◌}
use mathlib.Core.Bool.{true, false, ◌||◌}
use mathlib.Core.List.{List}
use lib.Dec.{eqb}
use Rattle.community.specs.Community.{election_under, community_octets, election_in}
use Rattle.community.specs.declared.Election.{Election}
use Rattle.community.proofs.Laws.{says-again}
use Rattle.layout.specs.Table.{Entry, entry_of}
use Rattle.route.specs.Route.{route_address}
use Rattle.route_fields.specs.Fields.{route_octets}
use Rattle.returning.specs.Returning.{Sent}

module _ (d i a : List ℕ) (g : ℕ) (r : Sent) where
  abbrev pub route : List ℕ
  route = route_octets d i a

  abbrev pub community : List ℕ
  community = community_octets (election_under g false r.dp r.preference)

  abbrev pub new : Entry
  new = entry_of (route_address route) (election_in community)

  module _ (k : (eqb g 2 || eqb g 3) ≡ true) (h : g ≤ 31) (b : r.preference < 65536) where
    said : election_in community ≡ election_under g false r.dp r.preference
    said = says-again g false r.dp r.preference h b

    pub new-algorithm : new.algorithm ≡ g
    unfolding election_under
    new-algorithm = ap (λ (x : Election). x.algorithm) said

    pub new-clear : new.ac_df ≡ false
    unfolding election_under
    new-clear = ap (λ (x : Election). x.ac_df) said

    pub new-dp : new.dp ≡ r.dp
    unfolding election_under
    new-dp = ap (λ (x : Election). x.dp) said ∙ rw k

    pub new-preference : new.preference ≡ r.preference
    unfolding election_under
    new-preference = ap (λ (x : Election). x.preference) said ∙ rw k
