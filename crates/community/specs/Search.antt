-- What the search in a list of communities promises to the reader of the list. No public promise cites it.
--   elections_from s at   == the election communities of the list s from octet `at` on
--   FirstFrom s at r     == r is where the first of them starts, or none where there is none
use Rattle.std.specs.Prelude.{ℕ, ◌+◌, ◌-◌, ◌/◌, ◌%◌, ◌≤◌, ◌≡◌, List, [], ◌∷◌, length, take, drop, Option, Some, None}
use Rattle.community.specs.Community.{communities, elections}

unfoldable pub elections_from : List ℕ → ℕ → List (List ℕ)
elections_from s at = elections (communities ((length s - at) / 8) (drop at s))

abbrev pub FirstFrom : List ℕ → ℕ → Option ℕ → Type 0
FirstFrom s at (Some i) = (i + 8 ≤ length s) × (i % 8 ≡ 0) × (elections_from s at ≡ take 8 (drop i s) ∷ elections_from s (i + 8))
FirstFrom s at None = elections_from s at ≡ []
