-- A fresh table holds no entry.
use Rattle.candidate_list.proofs.Taken.{loaded-none}
use Rattle.candidate_list.proofs.nothing.Goals as goal

pub returns : goal.returns
returns c = loaded-none _ _ c.fresh-made.ensures.answer c.fresh-made.ensures.kept
