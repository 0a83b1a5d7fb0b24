-- A chain of checks in their order, as document 01 writes the refusals of every call: the first test that holds refuses.
--   Check             == a test, and the number that refuses where it holds
--   first_refusal cs   == 0 where no test of cs holds, else the number of the first that does
use Rattle.std.specs.Prelude.{ℕ, Bool, cond, List, [], ◌∷◌}

abbrev pub Check : Type 0
Check = Bool × ℕ

unfoldable pub first_refusal : List Check → ℕ
first_refusal [] = 0
first_refusal (c ∷ cs) = cond c.0 c.1 (first_refusal cs)
