-- `give` meets its contract: the identifier is written into zeros, or they stay. Assumes nothing.
use Rattle.std.proofs.Common.{sym, ◌∙◌, refl, ap, length}
use Rattle.esi.proofs.Laws.{length-not-reserved}
use Rattle.owner.proofs.Given.{given-reserved, given-accepted}
use Rattle.owner.proofs.give.Goals as goal

pub returns-then-is_reserved : goal.returns-then-is_reserved
returns-then-is_reserved c = given-reserved c.args.esi.now _ c.args.t.now c.requires refl (sym c.is_reserved.ensures ∙ c.if-is_reserved.true)

pub put_identifier-requires : goal.put_identifier-requires
put_identifier-requires c = (ap length c.requires, length-not-reserved c.args.esi.now (sym c.is_reserved.ensures ∙ c.if-is_reserved.false))

pub returns : goal.returns
returns c = given-accepted c.args.esi.now _ c.args.t.now c.requires c.put_identifier.ensures.words c.put_identifier.ensures.octets (sym c.is_reserved.ensures ∙ c.if-is_reserved.false)
