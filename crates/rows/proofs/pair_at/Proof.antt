-- `pair_at` meets its contract: two words fit one number of 64 bits. Assumes nothing.
use Prim.Native.Nat.{◌+◌}
use native.Mathlib.Omega.{arith}
use borrow.Author.Rules.{rules}
use Rattle.rows.proofs.pair_at.Statement.{statement}
use Rattle.rows.proofs.pair_at.Tie as tie

pub pair_at_spec : {M : Type 1} → statement M
pair_at_spec =
    tie.close
    (tie.spec
    (λ c. search rules)
    (λ c. search rules)
    (λ c. omega (arith, c.shared_slice_known-1.given c.args.at))
    (λ c. search rules)
    (λ c. search rules)
    (λ c. search rules)
    (λ c. omega (arith, c.shared_slice_known-2-1.given (c.args.at + 1)))
    (λ c. omega (arith, c.shared_slice_known-2-1.given (c.args.at + 1)))
    (λ c. omega (arith, c.shared_slice_known-2-1.given c.args.at, c.shared_slice_known-2-1.given (c.args.at + 1)))
    (λ c. search rules))
