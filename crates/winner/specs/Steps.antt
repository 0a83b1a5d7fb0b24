-- What the steps of the winner promise to it. No public promise cites these.
--   score_of a d e          == the number by which a candidate is preferred under the algorithm a (1 to 3) and the digest d, the greater the better: twice the
--                             weight, or preference and DP as one number
--   Walking S es at top s  == a walk by the score S over places in use, those of the entries es: it keeps the place at, whose score is top, and s is left
--   ending S es at s       == the entry that it ends at: the best by S of the entry kept and those at the places left
--   Toward m S es at top s == a walk that ends at the entry m
--   Keeping S es at top    == a walk by S keeps the place at, which is in use, and its score is top
--   ending_at S es at ps    == the entry that a walk ends at which keeps the place at and has the places ps left
--   Along m S es at top ps == a walk that keeps the place at, whose score is top, and has the places ps left ends at the entry m
--   FamilyFrom n es s      == the family of the address at the first of the places s, if there is one, is n or above; addresses rise, so no later one is lower
--   FamilyAt n es i e      == the family of the address at the place i, if it is below e, is n or above
--   rank_of S es i          == the rank of the place i: the greater one has the greater score, or the same score at the lower place
--   top_rank S es t ps      == the greatest of the rank t and those of the places ps
use Rattle.std.specs.Prelude.{ℕ, ◌+◌, ◌-◌, ◌*◌, ◌^◌, ◌≤◌, ◌<◌, ◌≡◌, cond, List, map, length, get_or, eqb}
use Rattle.lists.specs.Lists.{bit}
use Rattle.address.specs.Address.{family_of, address_number}
use Rattle.layout.specs.Table.{Entry, no_entry}
use Rattle.places.specs.Places.{places}
use Rattle.choice.specs.Choice.{best, higher}
use Rattle.hrw.specs.Weight.{weight_of}
use Rattle.winner.specs.Winner.{entries_at}

unfoldable pub score_of : ℕ → ℕ → Entry → ℕ
score_of a d e =
    cond (eqb a 1) (2 * weight_of (address_number e.address) d) (cond (eqb a 3) (65535 - e.preference) e.preference * 2 + bit e.dp)

pub record Walking (S : Entry → ℕ) (es : List Entry) (at top s : ℕ) : Type 0 where
  pub within : s < 2 ^ length es
  pub there : at < length es
  pub scored : top ≡ S (get_or es at no_entry)

abbrev pub Keeping : (Entry → ℕ) → List Entry → ℕ → ℕ → Type 0
Keeping S es at top = (at < length es) × (top ≡ S (get_or es at no_entry))

abbrev pub ending_at : (Entry → ℕ) → List Entry → ℕ → List ℕ → Entry
ending_at S es at ps = best (higher S) (get_or es at no_entry) (entries_at es ps)

abbrev pub Along : Entry → (Entry → ℕ) → List Entry → ℕ → ℕ → List ℕ → Type 0
Along m S es at top ps = Keeping S es at top × (ending_at S es at ps ≡ m)

abbrev pub ending : (Entry → ℕ) → List Entry → ℕ → ℕ → Entry
ending S es at s = ending_at S es at (places s)

abbrev pub Toward : Entry → (Entry → ℕ) → List Entry → ℕ → ℕ → ℕ → Type 0
Toward m S es at top s = Walking S es at top s × (ending S es at s ≡ m)

abbrev pub FamilyFrom : ℕ → List Entry → ℕ → Type 0
FamilyFrom n es s = (s ≡ 0 → ⊥) → n ≤ family_of (get_or es (get_or (places s) 0 64) no_entry).address

abbrev pub FamilyAt : ℕ → List Entry → ℕ → ℕ → Type 0
FamilyAt n es i e = i < e → n ≤ family_of (get_or es i no_entry).address

abbrev pub rank_of : (Entry → ℕ) → List Entry → ℕ → ℕ
rank_of S es i = S (get_or es i no_entry) * 64 + (63 - i)

abbrev pub top_rank : (Entry → ℕ) → List Entry → ℕ → List ℕ → ℕ
top_rank S es t ps = best (higher (λ n. n)) t (map (λ i. rank_of S es i) ps)
