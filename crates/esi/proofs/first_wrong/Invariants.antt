-- Before offset i, the first wrong offset among the first 29 is the first from offset i on.
use Rattle.std.proofs.Common.{◌≡◌, take, drop}
use Rattle.esi.specs.Text.{first_wrong, wrong_from}
use Rattle.esi.proofs.first_wrong.Given as goal

abbrev pub invariant-loop-i : goal.invariant-loop-i
invariant-loop-i l = first_wrong l.text ≡ wrong_from l.i (drop l.i (take 29 l.text))
