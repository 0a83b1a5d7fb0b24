-- The dump from position `at` on, with the last record so far, comes to the whole's. Assumes nothing.
use Rattle.std.proofs.Common.{◌≤◌, length, ◌-◌}
use Rattle.address.specs.Address.{address_row}
use Rattle.dumps.specs.Dumps.{place_of}
use Rattle.dumps.proofs.Scan.{Going}
use Rattle.dumps.proofs.last.Given as goal

abbrev pub invariant-loop-found : goal.invariant-loop-found
invariant-loop-found l = record { within : l.at ≤ length l.s; going : Going (address_row l.address) l.s l.at (place_of l.found) }

abbrev pub decreases-loop-found : goal.decreases-loop-found
decreases-loop-found l = length l.s - l.at
