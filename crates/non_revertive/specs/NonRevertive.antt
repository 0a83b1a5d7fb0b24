-- A router that comes back does not unseat the forwarder (document 02, M-107; RFC 9785, section 4.3). Its own algorithm is 2 or 3 and its own DP is set, its address is not in the
-- table, and all that are there are on its algorithm with AC-DF clear. It asks what to send, announces that, as the writers write it, with that algorithm and AC-DF clear, and is accepted or
-- refused. Then whoever was elected with DP set is elected still: for every tag, with ranges set or not.
--   ComesBack s a g         == the router of the address a and the algorithm g may come back to the state s
--   announced_pair s d a g r == the state s after it announced the pair of the answer r, where d is its route distinguisher
--   NonRevertive s a g r    == whoever the elections upon the state s name, if its DP is set, those after the announcement of the answer r name too
use Rattle.std.specs.Prelude.{ℕ, ◌≡◌, true, false, not, ◌||◌, length, eqb}
use mathlib.Core.List.{List, Memᴰ}
use Rattle.lists.specs.Lists.{all}
use Rattle.keyed.specs.Keyed.{has}
use Rattle.address.specs.Address.{address_key}
use Rattle.community.specs.Community.{election_under, community_octets}
use Rattle.layout.specs.Table.{Entry, entry_key}
use Rattle.route_fields.specs.Fields.{route_octets}
use Rattle.table.specs.Table.{announced}
use Rattle.segment_state.specs.State.{Segment}
use Rattle.election.specs.Queries.{Query}
use Rattle.returning.specs.Returning.{Sent, all_under}
use Rattle.forwarders.specs.Forwarders.{elect_in, Names, SameForwarder}

pub record ComesBack (s : Segment) (a : List ℕ) (g : ℕ) : Type 0 where
  pub algorithm : (eqb g 2 || eqb g 3) ≡ true
  pub absent : has entry_key (address_key a) s.table.entries ≡ false
  pub agreed : all_under g s.table.entries ≡ true
  pub clear : all (λ e. not e.ac_df) s.table.entries ≡ true

abbrev pub announced_pair : Segment → List ℕ → List ℕ → ℕ → Sent → Segment
announced_pair s d a g r = record {
  table = (announced s.table (route_octets d s.table.esi a) (community_octets (election_under g false r.dp r.preference))).table;
  settings = s.settings;
}

abbrev pub NonRevertive : Segment → List ℕ → ℕ → Sent → Type 0
NonRevertive s a g r = ComesBack s a g → (d : List ℕ) → length d ≡ 8 → (q : Query) (tag : ℕ) (ready : List (List ℕ)) (e : Entry)
    → Memᴰ e s.table.entries → e.dp ≡ true → Names (elect_in s q tag ready) e.address
    → SameForwarder (elect_in s q tag ready) (elect_in (announced_pair s d a g r) q tag ready)
