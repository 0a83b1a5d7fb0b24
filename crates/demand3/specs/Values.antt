-- The starred values of document 01 ("Values to hold against the definitions"), as one table: what the definitions that the contracts cite compute, beside what
-- the document says; before them the check of its CRC-32 ("The election", algorithm 1).
--   ipv4 a      == the IPv4 address a, as a row
--   Value       == numbers that a definition computes, and the numbers that they should be
--   starred     == the table, in the document's order
--   all_right l  == whether each value of l is what it should be
use Rattle.std.specs.Prelude.{ℕ, ◌+◌, Bool, true, false, ◌&&◌, List, [], ◌∷◌, replicate}
use Rattle.lists.specs.Lists.{bit}
use Rattle.octets.specs.Octets.{same_numbers}
use Rattle.address.specs.Address.{address_number}
use Rattle.community.specs.Community.{election_under, community_octets, read_community}
use Rattle.crc.specs.Crc.{crc32_of}
use Rattle.hrw.specs.Weight.{weight_of}
use Rattle.winner.specs.Winner.{elected}
use Rattle.election.specs.Election.{elect_of}
use Rattle.returning.specs.Returning.{returning_of}
use Rattle.layout.specs.Table.{Entry}

pub record Value : Type 0 where
  pub computed : List ℕ
  pub right : List ℕ

abbrev pub ipv4 : ℕ → List ℕ
ipv4 a = 4 ∷ a ∷ 0 ∷ 0 ∷ 0 ∷ []

-- the addresses 10.0.0.1, 10.0.0.2, 10.0.0.3 and 138.0.0.1 (8A000001 hex)
abbrev pub one : List ℕ
one = ipv4 0x0A00_0001

abbrev pub two : List ℕ
two = ipv4 0x0A00_0002

abbrev pub three : List ℕ
three = ipv4 0x0A00_0003

abbrev pub far : List ℕ
far = ipv4 0x8A00_0001

abbrev pub route : List ℕ → ℕ → Bool → ℕ → Entry
route a g d p = record { address = a; algorithm = g; ac_df = false; dp = d; preference = p }

-- an identifier that is not reserved
abbrev pub esi : List ℕ
esi = 0 ∷ 1 ∷ 2 ∷ 3 ∷ 4 ∷ 5 ∷ 6 ∷ 7 ∷ 8 ∷ 9 ∷ []

abbrev pub elects : List Entry → ℕ → List ℕ
elects l tag = (elect_of esi l tag []).number ∷ (elect_of esi l tag []).family ∷ (elect_of esi l tag []).address

-- the number, the family and the four words that tell 10.0.0.x, and those of the refusal n
abbrev pub names : ℕ → List ℕ
names x = 0 ∷ 4 ∷ (0x0A00_0000 + x) ∷ replicate 3 0

abbrev pub refuses : ℕ → List ℕ
refuses n = n ∷ replicate 5 0

abbrev pub three_routes : List Entry
three_routes = route one 0 false 0 ∷ route two 0 false 0 ∷ route three 0 false 0 ∷ []

abbrev pub pair : ℕ → Bool → List Entry
pair g d = route one g false 500 ∷ route two g d 500 ∷ []

abbrev pub sends : ℕ → ℕ → List ℕ
sends g p =
    (returning_of (route one g true 200 ∷ route two g true 100 ∷ []) three g p true).preference
    ∷ bit (returning_of (route one g true 200 ∷ route two g true 100 ∷ []) three g p true).dp
    ∷ []

abbrev pub says : List ℕ → List ℕ
says s =
    (read_community s).algorithm
    ∷ bit (read_community s).ac_df
    ∷ bit (read_community s).dp
    ∷ (read_community s).preference
    ∷ []

abbrev pub value : List ℕ → List ℕ → Value
value c r = record { computed = c; right = r }

abbrev pub starred : List Value
starred =
    -- CRC-32 of the nine characters 123456789
    value (crc32_of (49 ∷ 50 ∷ 51 ∷ 52 ∷ 53 ∷ 54 ∷ 55 ∷ 56 ∷ 57 ∷ []) ∷ []) (0xCBF4_3926 ∷ [])
    -- Weight, address 0, D 0; address 0, D 12345
    ∷ value (weight_of 0 0 ∷ []) (1406932606 ∷ [])
    ∷ value (weight_of 0 12345 ∷ []) (12345 ∷ [])
    -- 0A000001 and 8A000001 hex tie at D 0; 10.0.0.1 wins
    ∷ value (weight_of (address_number one) 0 ∷ []) (weight_of (address_number far) 0 ∷ [])
    ∷ value (elected 1 7 0 (route one 1 false 0 ∷ route far 1 false 0 ∷ [])).address one
    -- 10.0.0.1 to .3, algorithm 0: tag 7 gives .2; tag 4,294,967,294 gives .3; tags 0 and 4,294,967,295 are refused
    ∷ value (elects three_routes 7) (names 2)
    ∷ value (elects three_routes 4294967294) (names 3)
    ∷ value (elects three_routes 0) (refuses 10)
    ∷ value (elects three_routes 4294967295) (refuses 10)
    -- (500, DP 0) at .1 and (500, DP 1) at .2: .2, under 2 and under 3. Both DP 0: .1
    ∷ value (elects (pair 2 true) 7) (names 2)
    ∷ value (elects (pair 3 true) 7) (names 2)
    ∷ value (elects (pair 2 false) 7) (names 1)
    ∷ value (elects (pair 3 false) 7) (names 1)
    -- Algorithm 2, DP, AC-DF, 500: 06 06 02 C0 00 00 01 F4. 06 06 E2 C0 01 FF 01 F4 reads alike
    ∷ value (community_octets (election_under 2 true true 500)) (0x06 ∷ 0x06 ∷ 0x02 ∷ 0xC0 ∷ 0x00 ∷ 0x00 ∷ 0x01 ∷ 0xF4 ∷ [])
    ∷ value (says (0x06 ∷ 0x06 ∷ 0x02 ∷ 0xC0 ∷ 0x00 ∷ 0x00 ∷ 0x01 ∷ 0xF4 ∷ [])) (2 ∷ 1 ∷ 1 ∷ 500 ∷ [])
    ∷ value (says (0x06 ∷ 0x06 ∷ 0xE2 ∷ 0xC0 ∷ 0x01 ∷ 0xFF ∷ 0x01 ∷ 0xF4 ∷ [])) (2 ∷ 1 ∷ 1 ∷ 500 ∷ [])
    -- Returning with (300, 1) to (200, 1) and (100, 1): under 2 sends (200, 0); under 3 sends (300, 1)
    ∷ value (sends 2 300) (200 ∷ 0 ∷ [])
    ∷ value (sends 3 300) (300 ∷ 1 ∷ [])
    ∷ []

unfoldable pub all_right : List Value → Bool
all_right [] = true
all_right (v ∷ l) = same_numbers v.computed v.right && all_right l
