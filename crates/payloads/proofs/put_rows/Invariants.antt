-- The loop's invariant: the rows of the addresses passed stand at the front.
use Rattle.std.proofs.Common.{◌≡◌, ◌*◌, length, take}
use Rattle.rows.specs.Rows.{flat}
use Rattle.payloads.specs.Payloads.{addresses_in}
use Rattle.payloads.proofs.put_rows.Given as goal

abbrev pub invariant-loop-i : goal.invariant-loop-i
invariant-loop-i l = (length l.ready ≡ 320) × (take (l.i * 5) l.ready ≡ flat (take l.i (addresses_in l.fn.v6 l.s)))
