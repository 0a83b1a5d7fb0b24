-- The loop's invariant: the records of the entries passed stand behind the first record, each of at most 49 octets.
use Rattle.std.proofs.Common.{◌≡◌, ◌+◌, ◌*◌, ◌≤◌, length, take}
use Rattle.octets.specs.Octets.{stored}
use Rattle.layout.specs.Words.{table_in}
use Rattle.log_octets.specs.Log.{entry_records}
use Rattle.log_octets.proofs.put_entries.Given as goal

abbrev pub invariant-loop-i : goal.invariant-loop-i
invariant-loop-i l =
    (l.at ≡ 33 + length (entry_records l.fn.esi (take l.i (table_in l.t).entries))) × (l.out ≡ stored l.fn.out 33 (entry_records l.fn.esi (take l.i (table_in l.t).entries)))
    × (l.at ≤ 33 + 49 * l.i)
