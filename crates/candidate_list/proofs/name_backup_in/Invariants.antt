-- Before a record, the records before it are loaded, and none of them was refused.
use Rattle.std.proofs.Common.{take}
use Rattle.candidate_list.proofs.Loads.{Loads}
use Rattle.candidate_list.proofs.name_backup_in.Given as goal

abbrev pub invariant-loop-c : goal.invariant-loop-c
invariant-loop-c l = Loads l.words (take l.c-index l.list)
