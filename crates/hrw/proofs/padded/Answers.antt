-- Each word is two octets and two, by halves of the words that the tag and the identifier make. The word of the tag is found by a search, not named.
use Rattle.std.proofs.Common.{ℕ, ◌<◌, ap, ap₂, ◌∙◌, rules}
use Rattle.lists.specs.Lists.{Every}
use Rattle.lists.proofs.Lists.{every-place}
use Rattle.hrw.proofs.Words.{halves, padded-words}
use Rattle.hrw.proofs.padded.Goals as goal

octets : (c : goal.After-between-4) → Every (λ o. o < 256) c.args.esi.now
octets c = every-place (λ (x : ℕ). x < 256) c.args.esi.now 0 (λ j _. (c.type_inv.esi j).fits)

pub returns-clause-words : goal.returns-clause-words
returns-clause-words c =
    padded-words c.args.state c.args.tag _ _ c.args.esi.now c.ranges.state.fits c.requires (octets c) c.of_u32-head.ensures (search rules)
    c.between.ensures
    (c.between-2.ensures ∙ ap (halves _) c.low_four-a.ensures)
    (c.between-3.ensures ∙ ap₂ halves c.low_four-a.ensures c.low_four-b.ensures)
    (c.between-4.ensures ∙ ap₂ halves c.low_four-b.ensures c.low_two-c.ensures)

pub returns-clause-fits : goal.returns-clause-fits
returns-clause-fits c = (c.ranges.state.fits, octets c)
