-- `fresh` meets its contract: zeros are given to the identifier, that this is where every list starts, and demand 3 of every list of calls. Assumes nothing.
use mathlib.Core.Path.{refl}
use borrow.Author.Rules.{rules}
use Rattle.segment.proofs.Begun.{fresh-told}
use Rattle.demand3.proofs.Demand3.{demand3, starts}
use Rattle.one_forwarder.proofs.OneForwarder.{one-forwarder}
use Rattle.demand3.proofs.Values.{starred-right}
use Rattle.segment.proofs.fresh.Statement.{statement}
use Rattle.segment.proofs.fresh.Tie as tie

returns : tie.Need-returns
returns c =
    let i = c.args.esi.now in
    let told = fresh-told i _ _ c.give-answer.ensures in
    (told.0, (told.1, (starts i told.0.1, (demand3 i, (one-forwarder i, starred-right)))))

pub fresh_spec : {M : Type 1} → statement M
fresh_spec =
    tie.close
    (tie.spec
    (λ c. search rules)
    (λ c. search rules)
    (λ c κs. refl)
    returns)
