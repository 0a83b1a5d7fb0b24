-- The first k octets stand, and zeros after them.
use Rattle.std.proofs.Common.{◌≡◌, ◌++◌, take, drop, replicate}
use Rattle.esi.specs.Text.{esi_in}
use Rattle.esi.proofs.esi_in.Given as goal

abbrev pub invariant-loop-k : goal.invariant-loop-k
invariant-loop-k l = l.esi ≡ take l.k (esi_in l.text) ++ drop l.k (replicate 10 0)
