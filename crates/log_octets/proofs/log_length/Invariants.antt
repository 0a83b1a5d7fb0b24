-- The loop's invariant: the first record and those of the entries passed, each of at most 49 octets.
use Rattle.std.proofs.Common.{◌≡◌, ◌+◌, ◌*◌, ◌≤◌, length, take}
use Rattle.layout.specs.Words.{table_in}
use Rattle.log_octets.specs.Log.{entry_records}
use Rattle.log_octets.proofs.log_length.Given as goal

abbrev pub invariant-loop-i : goal.invariant-loop-i
invariant-loop-i l = (l.length ≡ 33 + length (entry_records (table_in l.t).esi (take l.i (table_in l.t).entries))) × (l.length ≤ 33 + 49 * l.i)
