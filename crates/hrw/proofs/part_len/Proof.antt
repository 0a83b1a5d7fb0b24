-- `part_len` meets its contract. Assumes nothing.
use mathlib.Core.Path.{ap, ◌∙◌, sym}
use borrow.Author.Rules.{rules}
use lib.ListN.{length}
use Rattle.hrw.proofs.Words.{words-length, part-source, part-group, part-last}
use Rattle.hrw.proofs.part_len.Statement.{statement}
use Rattle.hrw.proofs.part_len.Tie as tie

returns : tie.Need-returns-then-part-eq0
returns c = sym (ap length (part-source _ _ _ _ (search rules)) ∙ words-length _ _)

returns-2 : tie.Need-returns-then-part-eq1
returns-2 c = sym (ap length (part-group _ _ _ _ (search rules)) ∙ words-length _ _)

returns-3 : tie.Need-returns
returns-3 c = sym (ap length (part-last _ _ _ _ (search rules) (search rules)))

pub part_len_spec : {M : Type 1} → statement M
part_len_spec =
    tie.close
    (tie.spec
    returns
    returns-2
    returns-3)
