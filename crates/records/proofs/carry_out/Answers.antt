-- `carry_out` after the run's end, where nothing is done. The check proves the rest. Assumes nothing.
use native.Mathlib.Omega.{arith}
use Rattle.records.proofs.Turns.{stepped-ended}
use Rattle.records.proofs.carry_out.Goals as goal

pub returns-in-Ended : goal.returns-in-Ended
returns-in-Ended c = let a = c.args in stepped-ended a.phase a.t.now a.kind a.payload.now a.out.now a.at c.in-Ended.is (omega arith) c.requires.2
