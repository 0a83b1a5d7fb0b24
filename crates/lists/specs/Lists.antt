-- Lists, and tests as numbers, over any element.
--   Every P l      == every element of l has the property P
--   all test l     == whether the test holds of every element of l
--   tabulate n f   == f 0, f 1, and so on, n of them
--   bit b          == 1 where the test b holds, else 0
use Rattle.std.specs.Prelude.{ℕ, zero, suc, Bool, true, cond, ◌&&◌, List, [], ◌∷◌}

unfoldable pub Every : {A : Type 0} → (A → Type 0) → List A → Type 0
Every P [] = Unit
Every P (x ∷ l) = P x × Every P l

unfoldable pub all : {A : Type 0} → (A → Bool) → List A → Bool
all test [] = true
all test (x ∷ l) = test x && all test l

unfoldable pub tabulate : {A : Type 0} → ℕ → (ℕ → A) → List A
tabulate zero f = []
tabulate (suc n) f = f 0 ∷ tabulate n (λ k. f (suc k))

abbrev pub bit : Bool → ℕ
bit b = cond b 1 0
