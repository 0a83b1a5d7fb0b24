-- The four octets, put into a word and taken out again.
use Rattle.std.proofs.Common.{ℕ, ◌<◌, ap, ◌∙◌}
use Rattle.lists.proofs.Lists.{every-place}
use Rattle.octets.specs.Octets.{number_of}
use Rattle.octet_words.specs.Words.{low_octets}
use Rattle.octet_words.proofs.Laws.{low_part}
use Rattle.octet_words.proofs.high_four.Goals as goal

pub returns : goal.returns
returns c =
    let s = c.args.s.now in
    c.turned_round.ensures
    ∙ ap (λ x. number_of (low_octets 4 x)) c.low_four.ensures
    ∙ ap number_of (low_part s c.args.at 4 (every-place (λ (x : ℕ). x < 256) s 0 (λ j _. (c.type_inv.s j).fits)) c.requires)
