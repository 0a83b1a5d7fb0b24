-- The backup among all that was loaded.
use Rattle.std.proofs.Common.{arith}
use Rattle.candidate_list.specs.Steps.{entries_of}
use Rattle.candidate_list.proofs.Among.{among-all}
use Rattle.candidate_list.proofs.backup_of.Goals as goal

pub returns : goal.returns
returns c =
    among-all (entries_of c.args.t.now) c.requires.0.sound.short _ _ c.count.ensures c.below-set.ensures
    c.args.algorithm _ _ (omega arith) (omega arith) c.backup_among.ensures
