-- What the steps of the ready routers promise to it. No public promise cites these.
--   HeadAt c p k t       == the two words of c from word p on are the kind k and the tag t
--   StartsAt c p k t     == the two words of c from word p on are the kind k and the tag t, or more
--   SameWords w b p c q  == so many words of c from word q on are those of b from word p on
use Rattle.std.specs.Prelude.{ℕ, ◌≤◌, ◌≡◌, List, [], ◌∷◌, take, drop}
use Rattle.rows.specs.Rows.{row_key}

abbrev pub HeadAt : List ℕ → ℕ → ℕ → ℕ → Type 0
HeadAt c p k t = row_key (take 2 (drop p c)) ≡ row_key (k ∷ t ∷ [])

abbrev pub StartsAt : List ℕ → ℕ → ℕ → ℕ → Type 0
StartsAt c p k t = row_key (k ∷ t ∷ []) ≤ row_key (take 2 (drop p c))

abbrev pub SameWords : ℕ → List ℕ → ℕ → List ℕ → ℕ → Type 0
SameWords w b p c q = row_key (take w (drop q c)) ≡ row_key (take w (drop p b))
