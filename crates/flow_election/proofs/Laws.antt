-- Addresses of right lengths, of 4 or of 16 octets, are whole words of four octets. Assumes nothing.
use Prim.Native.Nat.{ℕ, ◌%◌}
use mathlib.Core.Path.{◌≡◌}
use mathlib.Core.Bool.{true, ◌&&◌, and-eq-true_iff}
use lib.Dec.{eqb}
use borrow.Author.Tests.{eqb-true}
use Rattle.lists.proofs.Bools.{by-test}
use Rattle.election.specs.Queries.{is_address_length}

pub whole_words : (n : ℕ) → is_address_length n ≡ true → n % 4 ≡ 0
whole_words n h =
    by-test (eqb n 4) (λ t. rw (eqb-true n 4 t)) (λ f. rw (eqb-true n 16 (rw f at h)))

pub both-whole-words : (m n : ℕ) → (is_address_length m && eqb m n) ≡ true → (m % 4 ≡ 0) × (n % 4 ≡ 0)
both-whole-words m n h =
    let p = (and-eq-true_iff (is_address_length m) (eqb m n)).0 h in
    let w = whole_words m p.0 in
    (w, rw (eqb-true m n p.1) at w)

-- this law, by a name that a function of the code can cite
pub ruleset right_words = (both-whole-words)
