-- The part of the table is within it. Assumes nothing.
use Rattle.std.proofs.Common.{arith}
use Rattle.layout.proofs.Words.{length-valid}
use Rattle.circuit_ready.proofs.addresses_are.Goals as goal

pub slice_bounds-address-end : goal.slice_bounds-address-end
slice_bounds-address-end c = omega (arith, length-valid c.args.t.now c.requires.0)
