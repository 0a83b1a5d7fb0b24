-- Before each place, no kind differs so far and the rest are of the first's exactly if all are. Assumes nothing.
use Rattle.std.proofs.Common.{◌≡◌, ◌/◌, ◌&&◌, nat_eq, get_or, drop}
use Rattle.layout.specs.Table.{no_entry}
use Rattle.layout.specs.Words.{kind_of, table_in}
use Rattle.agreement.specs.Steps.{all_of_kind}
use Rattle.agreement.proofs.all_of_one_kind.Given as goal

abbrev pub invariant-loop-i : goal.invariant-loop-i
invariant-loop-i l =
    let es = (table_in l.t).entries in
    let kind = kind_of (get_or es 0 no_entry) in
    (nat_eq (l.differ / 131072) 0 && all_of_kind kind (drop l.i es)) ≡ all_of_kind kind es
