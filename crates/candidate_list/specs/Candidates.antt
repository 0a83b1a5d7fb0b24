-- The backup over a list of candidates (document 02, M-113): records of an address, a preference and a DP bit, in any order. All of them are eligible, and the caller names algorithm 2 or 3.
--   candidate_row c         == the address of the record c as a row of words: in an IPv4 one the words after the first don't count
--   candidate_election c    == what the record c says of the election
--   candidate_entry c       == the record c as an entry
--   has_address c           == whether the record c has an address: its family is 4 or 6, and the address is not zero
--   twice key l            == whether two elements of l have the same key
--   records_wrong cs        == whether one of the records cs has no address, or an address stands among them twice
--   list_wrong cs           == whether the list cs is refused: it is over 64, or its records are wrong
--   by_algorithm a          == the method of the algorithm a, 2 or 3, under which no digest counts
--   backup_under w a l      == the answer under the algorithm a among the entries l, where w tells whether their list is refused
--   backup_in_list cs a      == THE answer for the list cs under the algorithm a
use Rattle.std.specs.Prelude.{ℕ, Bool, false, cond, not, ◌&&◌, ◌||◌, List, [], ◌∷◌, map, length, ltb, eqb}
use Rattle.lists.specs.Lists.{all}
use Rattle.keyed.specs.Keyed.{has}
use Rattle.address.specs.Address.{is_zero}
use Rattle.community.specs.Community.{weighs_preference}
use Rattle.community.specs.declared.Election.{Election}
use Rattle.layout.specs.Table.{Entry, entry_key, entry_of}
use Rattle.answers.specs.Answers.{Method}
use Rattle.refusals.specs.Refusals.{candidates_wrong, algorithm_not_usable}
use Rattle.backup.specs.Backup.{Backup, refused_backup, backup_by}
use Rattle.candidate_list.specs.declared.Candidate.{Candidate}

-- RECORDS
unfoldable pub candidate_row : Candidate → List ℕ
candidate_row c = cond (eqb c.family 4) (c.family ∷ c.w0 ∷ 0 ∷ 0 ∷ 0 ∷ []) (c.family ∷ c.w0 ∷ c.w1 ∷ c.w2 ∷ c.w3 ∷ [])

-- an entry has a preference and a DP bit under algorithms 2 and 3 alone; the one in use is the caller's
abbrev pub candidate_election : Candidate → Election
candidate_election c = record { algorithm = 2; ac_df = false; dp = c.dp; preference = c.preference }

abbrev pub candidate_entry : Candidate → Entry
candidate_entry c = entry_of (candidate_row c) (candidate_election c)

-- a family that is neither is ours to refuse: document 02 does not name it
unfoldable pub has_address : Candidate → Bool
has_address c = (eqb c.family 4 || eqb c.family 6) && not (is_zero (candidate_row c))

-- LISTS that are refused
unfoldable pub twice : {A : Type 0} → (A → ℕ) → List A → Bool
twice key [] = false
twice key (x ∷ l) = has key (key x) l || twice key l

unfoldable pub records_wrong : List Candidate → Bool
records_wrong cs = not (all has_address cs) || twice entry_key (map candidate_entry cs)

unfoldable pub list_wrong : List Candidate → Bool
list_wrong cs = ltb 64 (length cs) || records_wrong cs

-- THE ANSWER: 22 for a list that is refused, 15 for an algorithm that is neither 2 nor 3, and 12 for fewer than two records. Under 2 and 3 neither a digest nor a tag counts
abbrev pub by_algorithm : ℕ → Method
by_algorithm a = record { algorithm = a; digest = 0; told = a }

unfoldable pub backup_under : Bool → ℕ → List Entry → Backup
backup_under w a l =
    cond w (refused_backup candidates_wrong)
    (cond (not (weighs_preference a)) (refused_backup algorithm_not_usable)
    (backup_by (by_algorithm a) l 0))

abbrev pub backup_in_list : List Candidate → ℕ → Backup
backup_in_list cs a = backup_under (list_wrong cs) a (map candidate_entry cs)
