-- `read`: the fields of an accepted route. The check proves the rest.
use Rattle.std.proofs.Common.{refl, ap, ◌∙◌}
use Rattle.address.specs.Address.{octets_in}
use Rattle.address.proofs.Laws.{words-after}
use Rattle.route_fields.proofs.Laws.{reads-accepted}
use Rattle.route_fields.proofs.read.Goals as goal

pub returns-clause-value : goal.returns-clause-value
returns-clause-value c =
    let row = c.row-row in
    reads-accepted c.args.s.now _ _ _ row.result _ _ c.in_ok-a.ensures.value c.store.ensures c.store-2.ensures row.ensures.words refl
    (c.octets-o.ensures ∙ ap octets_in (words-after row.result row.ensures.address))
