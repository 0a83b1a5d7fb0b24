-- `put_identifier` meets its contract: three words are written, which the octets make. Assumes nothing.
use Prim.Native.Nat.{ℕ, ◌<◌}
use mathlib.Core.Path.{ap, ◌∙◌}
use mathlib.Core.List.{◌++◌}
use lib.ListN.{take}
use borrow.Author.Rules.{rules}
use Rattle.lists.proofs.Lists.{every-place}
use Rattle.owner.proofs.Laws.{written, words_of}
use Rattle.owner.proofs.put_identifier.Statement.{statement}
use Rattle.owner.proofs.put_identifier.Tie as tie

returns : tie.Need-returns
returns c =
    let known = c.before.before.before in
    let start = known.before.before in
    let t = start.args.t.now in
    let esi = start.args.esi.now in (
      written t _ _ _ start.requires.0
          ∙ ap (λ l. take 385 t ++ l) (words_of esi _ _ _ c.low_four.ensures c.low_four-2.ensures c.low_two.ensures),
      every-place (λ (x : ℕ). x < 256) esi 0 (λ j _. (known.shared_slice_known-1.given j).fits),
    )

pub put_identifier_spec : {M : Type 1} → statement M
put_identifier_spec =
    tie.close
    (tie.spec
    (λ c κs. search rules)
    (λ c. search rules)
    (λ c κs. search rules)
    (λ c. search rules)
    (λ c. search rules)
    (λ c. search rules)
    (λ c κs. search rules)
    (λ c. search rules)
    (λ c. search rules)
    (λ c. search rules)
    (λ c. search rules)
    returns)
