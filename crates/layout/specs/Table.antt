-- The table of the routes of one segment (document 01, "The table").
--   Entry                  == an entry: the address, the algorithm, the AC-DF bit, the DP bit and the preference
--   entry_key e             == the number that an entry is ordered by
--   no_entry                == what is read where no entry stands
--   entry_of a e            == the entry of the address a, as its communities say e
--   EntryRight e           == e is what a community can say
--   AddressRight e         == the entry's address is one, and not zero
--   Table                  == a table: the identifier, and the entries
--   table_of i l            == the table of the identifier i that holds the entries l
--   WellFormed t           == what every call keeps of a table; with the sizes of the words it is all that the calls can have made (`Valid`)
--   owner_of i              == the identifier that a fresh table for i belongs to: all zeros for a reserved one
use Rattle.std.specs.Prelude.{ℕ, ◌≤◌, ◌≡◌, Bool, false, cond, List, [], ◌⊎◌, length, replicate}
use Rattle.lists.specs.Lists.{Every}
use Rattle.address.specs.Address.{address_key, IsAddress, is_zero}
use Rattle.esi.specs.Reserved.{reserved}
use Rattle.community.specs.declared.Election.{Election}
use Rattle.community.specs.Community.{election_under}
use Rattle.keyed.specs.Keyed.{Rising}

-- ENTRIES: as the community was read, and nothing else
pub record Entry : Type 0 where
  pub address : List ℕ
  pub algorithm : ℕ
  pub ac_df : Bool
  pub dp : Bool
  pub preference : ℕ

abbrev pub entry_key : Entry → ℕ
entry_key e = address_key e.address

abbrev pub no_entry : Entry
no_entry = record { address = []; algorithm = 0; ac_df = false; dp = false; preference = 0 }

abbrev pub entry_of : List ℕ → Election → Entry
entry_of a e = record { address = a; algorithm = e.algorithm; ac_df = e.ac_df; dp = e.dp; preference = e.preference }

-- what a community can say: an algorithm of five bits, and DP and preference under 2 and 3 only
abbrev pub EntryRight : Entry → Type 0
EntryRight e = (e.algorithm ≤ 31) × (e ≡ entry_of e.address (election_under e.algorithm e.ac_df e.dp e.preference))

abbrev pub AddressRight : Entry → Type 0
AddressRight e = IsAddress e.address × (is_zero e.address ≡ false)

-- STATES
pub record Table : Type 0 where
  pub esi : List ℕ
  pub entries : List Entry

abbrev pub table_of : List ℕ → List Entry → Table
table_of i l = record { esi = i; entries = l }

-- the identifier is not reserved, or all zeros in a table that stays empty; at most 64 entries, whose addresses rise and are not zero
pub record WellFormed (t : Table) : Type 0 where
  pub owner : (reserved t.esi ≡ false) ⊎ ((t.esi ≡ replicate 10 0) × (length t.entries ≡ 0))
  pub short : length t.entries ≤ 64
  pub rising : Rising entry_key 1 t.entries
  pub right : Every EntryRight t.entries
  pub addresses : Every AddressRight t.entries

unfoldable pub owner_of : List ℕ → List ℕ
owner_of i = cond (reserved i) (replicate 10 0) i
