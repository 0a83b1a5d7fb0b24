-- `first` meets its contract: the zeros below the lowest one are its place, and 64 where there is none. Assumes nothing.
use native.Mathlib.Nat.{lt_of_le_of_lt}
use lib.Dec.{lit<}
use lib.Count.{trailing_le}
use Rattle.places.proofs.Laws.{places-first}
use Rattle.places.proofs.first.Statement.{statement}
use Rattle.places.proofs.first.Tie as tie

cast-result : tie.Need-overflow_cast-result
cast-result c = record { fits = lt_of_le_of_lt (trailing_le 64 _) (lit< tt) }

returns : tie.Need-returns
returns c = places-first c.args.s

pub first_spec : {M : Type 1} → statement M
first_spec =
    tie.close
    (tie.spec
    cast-result
    returns)
