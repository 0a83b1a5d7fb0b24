-- `run_end` meets its contract: the trailing ones of a set that is filled end where its lowest run ends. Assumes nothing.
use native.Mathlib.Nat.{lt_of_le_of_lt}
use lib.Dec.{lit<}
use lib.Count.{trailing_le}
use Rattle.place_runs.proofs.Runs.{run_ends}
use Rattle.place_runs.proofs.run_end.Statement.{statement}
use Rattle.place_runs.proofs.run_end.Tie as tie

cast-result : tie.Need-overflow_cast-result
cast-result c = record { fits = lt_of_le_of_lt (trailing_le 64 _) (lit< tt) }

returns : tie.Need-returns
returns c = run_ends c.args.s _ c.ranges.s.fits c.filled.ensures

pub run_end_spec : {M : Type 1} → statement M
run_end_spec =
    tie.close
    (tie.spec
    (λ c κs. tt)
    cast-result
    returns)
