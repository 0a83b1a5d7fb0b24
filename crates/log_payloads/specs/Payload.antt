-- What an announcement says of an entry when a table is written out as records (document 02, M-112): distinguisher zero, and one community.
--   election_of e    == what the election community of the entry e says
--   payload_of i e   == the payload of an announcement of the entry e to the table of i: the route with a distinguisher of zeros, and the community
use Rattle.std.specs.Prelude.{ℕ, List, ◌++◌, replicate}
use Rattle.route_fields.specs.Fields.{route_octets}
use Rattle.community.specs.declared.Election.{Election}
use Rattle.community.specs.Community.{election_under, community_octets}
use Rattle.layout.specs.Table.{Entry}

abbrev pub election_of : Entry → Election
election_of e = election_under e.algorithm e.ac_df e.dp e.preference

abbrev pub payload_of : List ℕ → Entry → List ℕ
payload_of i e = route_octets (replicate 8 0) i e.address ++ community_octets (election_of e)
