-- `part_word` meets its contract: a word of octets is the word that the octets at its place make. Assumes nothing.
use Prim.Native.Nat.{ℕ, ◌<◌}
use native.Mathlib.Omega.{arith}
use mathlib.Core.Path.{ap, ◌∙◌, sym}
use mathlib.Core.List.{List}
use borrow.Author.Rules.{rules}
use lib.ListN.{length, get_or}
use Rattle.hrw.proofs.Words.{word-within, word-there, last_within, part-source, part-group, part-last}
use Rattle.hrw.proofs.part_word.Statement.{statement}
use Rattle.hrw.proofs.part_word.Tie as tie

returns : tie.Need-returns-then-part-eq0
returns c =
    let start = c.before.before.before.before.before in
    c.low_four.ensures ∙ sym (word-there _ _ start.requires (part-source _ _ _ _ (search rules)))

returns-2 : tie.Need-returns-then-part-eq1
returns-2 c =
    let start = c.before.before.before.before.before.before in
    c.low_four-then-part-eq1.ensures ∙ sym (word-there _ _ start.requires (part-group _ _ _ _ (search rules)))

in-last : (c : tie.Else-part-eq1) → let a = c.args in a.i < length a.last.now
in-last c =
    let start = c.before.before.before.before.before in
    last_within start.args.i start.args.last.now start.requires (part-last _ _ _ _ (search rules) (search rules))

returns-3 : tie.Need-returns
returns-3 c =
    let a = c.args in
    sym (ap (λ (l : List ℕ). get_or l a.i 0) (part-last a.part a.source.now a.group.now a.last.now (search rules) (search rules)))

pub part_word_spec : {M : Type 1} → statement M
part_word_spec =
    tie.close
    (tie.spec
    (λ c. let start = c.before.before.before.before in omega (arith, word-within start.args.i start.args.source.now start.requires (part-source _ _ _ _ (search rules))))
    (λ c κs. let start = c.before.before.before.before in word-within start.args.i start.args.source.now start.requires (part-source _ _ _ _ (search rules)))
    returns
    (λ c. let start = c.before.before.before.before.before in omega (arith, word-within start.args.i start.args.group.now start.requires (part-group _ _ _ _ (search rules))))
    (λ c κs. let start = c.before.before.before.before.before in word-within start.args.i start.args.group.now start.requires (part-group _ _ _ _ (search rules)))
    returns-2
    (λ c. search (rules, in-last c))
    (λ c. search (rules, in-last c.before))
    returns-3)
