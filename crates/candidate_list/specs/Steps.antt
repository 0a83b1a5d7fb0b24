-- What the steps of the walk promise to it. The promises of the walk itself cite none of these.
--   unless_zero a          == the address a, unless it is zero
--   OriginatorOf c o      == o is the address of the record c, or tells that it has none
--   Loadable b            == b is the words of a table that entries can be put into
--   unfit l c             == whether the record c is refused after the entries l: it has no address, or one of theirs
--   TakenIn l c r m       == m are the entries l with the record c, where r tells whether it is refused
--   entries_of b          == the entries that were loaded, into the words b
--   NothingLoaded b       == b is what no record loads
use Rattle.std.specs.Prelude.{ℕ, ◌≡◌, Bool, true, false, cond, not, ◌||◌, List, [], Option, Some, None, Result, Ok, Err}
use Rattle.keyed.specs.Keyed.{has, insert}
use Rattle.address.specs.declared.Address.{Address}
use Rattle.address.specs.Address.{address_row, is_zero}
use Rattle.esi.specs.Reserved.{reserved}
use Rattle.layout.specs.Table.{Entry, entry_key}
use Rattle.layout.specs.Words.{table_in, Valid}
use Rattle.refusals.specs.Refusals.{candidates_wrong}
use Rattle.refusals.specs.Numbers.{refusal_number}
use Rattle.refusals.specs.declared.Refusal.{Refusal}
use Rattle.candidate_list.specs.declared.Candidate.{Candidate}
use Rattle.candidate_list.specs.Candidates.{candidate_row, candidate_entry, has_address}

unfoldable pub unless_zero : Address → Option Address
unless_zero a = cond (is_zero (address_row a)) None (Some a)

abbrev pub OriginatorOf : Candidate → Option Address → Type 0
OriginatorOf c (Some a) = (has_address c ≡ true) × (address_row a ≡ candidate_row c)
OriginatorOf c None = has_address c ≡ false

abbrev pub Loadable : List ℕ → Type 0
Loadable b = Valid b × (reserved (table_in b).esi ≡ false)

abbrev pub unfit : List Entry → Candidate → Bool
unfit l c = not (has_address c) || has entry_key (entry_key (candidate_entry c)) l

abbrev pub TakenIn : {A : Type 0} → List Entry → Candidate → Result A Refusal → List Entry → Type 0
TakenIn l c (Ok u) m = (unfit l c ≡ false) × (m ≡ insert entry_key (candidate_entry c) l)
TakenIn l c (Err r) m = (refusal_number r ≡ candidates_wrong) × (unfit l c ≡ true) × (m ≡ l)

abbrev pub entries_of : List ℕ → List Entry
entries_of b = (table_in b).entries

abbrev pub NothingLoaded : List ℕ → Type 0
NothingLoaded b = Loadable b × (entries_of b ≡ [])
