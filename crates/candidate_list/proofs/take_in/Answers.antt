-- A record whose address is there, and one that is put in.
use Rattle.std.proofs.Common.{sym, subst, ◌∙◌}
use Rattle.rows.proofs.Places.{missing-le}
use Rattle.layout.specs.Table.{entry_key}
use Rattle.candidate_list.specs.Steps.{OriginatorOf, entries_of}
use Rattle.candidate_list.proofs.Taken.{taken-there, taken-new}
use Rattle.candidate_list.proofs.take_in.Goals as goal

pub returns-in_default-found : goal.returns-in_default-found
returns-in_default-found c =
    taken-there c.args.t.now c.requires.0 c.args.c _ (subst (OriginatorOf c.args.c) c.in-Some.is c.address_of.ensures) _ (sym c.find-found.ensures ∙ c.in_default-found.is)

pub grow-requires : goal.grow-requires
grow-requires c = (c.requires.0.0, missing-le entry_key _ (entries_of c.args.t.now) _ (sym c.find-found.ensures ∙ c.in-Err.is), c.requires.1)

pub returns : goal.returns
returns c =
    taken-new c.args.t.now c.requires.0 c.args.c _ (subst (OriginatorOf c.args.c) c.in-Some.is c.address_of.ensures) _ _ c.attributes-word.ensures
    (sym c.find-found.ensures ∙ c.in-Err.is) c.requires.1 _ c.grow.ensures
