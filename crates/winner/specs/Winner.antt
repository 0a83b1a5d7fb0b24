-- Who is elected among the candidates (document 01, "The election"; RFC 7432, section 8.5; RFC 8584, section 3; RFC 9785, section 4.1).
--   by_weight d           == algorithm 1's order: the greatest weight under the digest d, then the lowest address
--   by_preference lowest  == the order of algorithms 2 and 3: the higher (3: the lower) preference, then DP set, then the lower address
--   better a d x y       == whether the candidate x is to be preferred to y under the algorithm a (1 to 3) and the digest d
--   elected a tag d cs   == the elected one of the candidates cs, which stand in rising address order
--   entries_at es ps      == the entries of es at the places ps
use Rattle.std.specs.Prelude.{ℕ, ◌%◌, Bool, cond, List, map, length, get_or, eqb}
use Rattle.address.specs.Address.{address_number}
use Rattle.layout.specs.Table.{Entry, entry_key, no_entry}
use Rattle.choice.specs.Choice.{best_in, higher, lower, flagged, and_then, by_score}
use Rattle.hrw.specs.Weight.{weight_of}

-- 1: greatest weight; on a tie the lowest address
abbrev pub by_weight : ℕ → Entry → Entry → Bool
by_weight d = by_score (λ e. weight_of (address_number e.address) d) entry_key

-- 2: higher preference, then DP set, then lower address. 3: lower preference, then the same
abbrev pub by_preference : Bool → Entry → Entry → Bool
by_preference lowest =
    and_then (cond lowest (lower (λ e. e.preference)) (higher (λ e. e.preference))) (and_then (flagged (λ e. e.dp)) (lower entry_key))

unfoldable pub better : ℕ → ℕ → Entry → Entry → Bool
better a d = cond (eqb a 1) (by_weight d) (by_preference (eqb a 3))

-- 0: the one at tag mod N, counted from 0 in rising address order
unfoldable pub elected : ℕ → ℕ → ℕ → List Entry → Entry
elected a tag d cs = cond (eqb a 0) (get_or cs (tag % length cs) no_entry) (best_in (better a d) no_entry cs)

abbrev pub entries_at : List Entry → List ℕ → List Entry
entries_at es ps = map (λ i. get_or es i no_entry) ps
