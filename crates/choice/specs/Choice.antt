-- The best of a list by a strict order that is given as a test: `better a b` says that a is to be preferred to b (document 01, "The election": algorithms 1
-- to 3, each by criteria in their order). Over any element.
--   best better x l       == the best of x and the elements of l, walked from the first on
--   best_in better d l     == the best of the elements of l; d where there are none
--   filtered keep l       == the elements of l that the test keep holds of, in their order
--   decided p q r         == one criterion between a and b: p, a wins by it; q, b wins by it; r, what the later criteria say where neither does
--   higher f a b          == a wins by the greater number f
--   lower f a b           == a wins by the lower number f
--   flagged f a b         == a wins as f holds of a and not of b
--   and_then wins later    == the criterion `wins`, and where it does not decide, `later`
--   by_score score key     == the greater score, then the lower key
use Rattle.std.specs.Prelude.{ℕ, Bool, true, false, cond, not, ◌&&◌, List, [], ◌∷◌, ◌++◌, ltb}

unfoldable pub best : {A : Type 0} → (A → A → Bool) → A → List A → A
best better x [] = x
best better x (y ∷ l) = best better (cond (better y x) y x) l

unfoldable pub best_in : {A : Type 0} → (A → A → Bool) → A → List A → A
best_in better d [] = d
best_in better d (x ∷ l) = best better x l

unfoldable pub filtered : {A : Type 0} → (A → Bool) → List A → List A
filtered keep [] = []
filtered keep (x ∷ l) = cond (keep x) (x ∷ []) [] ++ filtered keep l

abbrev pub decided : Bool → Bool → Bool → Bool
decided p q r = cond p true (cond q false r)

abbrev pub higher : {A : Type 0} → (A → ℕ) → A → A → Bool
higher f a b = ltb (f b) (f a)

abbrev pub lower : {A : Type 0} → (A → ℕ) → A → A → Bool
lower f a b = ltb (f a) (f b)

abbrev pub flagged : {A : Type 0} → (A → Bool) → A → A → Bool
flagged f a b = f a && not (f b)

abbrev pub and_then : {A : Type 0} → (A → A → Bool) → (A → A → Bool) → A → A → Bool
and_then wins later a b = decided (wins a b) (wins b a) (later a b)

abbrev pub by_score : {A : Type 0} → (A → ℕ) → (A → ℕ) → A → A → Bool
by_score score key = and_then (higher score) (lower key)
