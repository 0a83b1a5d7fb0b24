-- `rest` meets its contract: s & (s - 1) clears the lowest one. Assumes nothing.
use borrow.Author.Rules.{rules}
use Rattle.places.proofs.Laws.{places-none, places-rest, rest-less}
use Rattle.places.proofs.rest.Statement.{statement}
use Rattle.places.proofs.rest.Tie as tie

returns : tie.Need-returns-then-s-eq0
returns c = (rw (c.if-s-eq0.true, places-none), λ n. absurd (n c.if-s-eq0.true))

returns-2 : tie.Need-returns
returns-2 c = (places-rest c.args.s, rest-less c.args.s)

pub rest_spec : {M : Type 1} → statement M
rest_spec =
    tie.close
    (tie.spec
    returns
    (λ c. search rules)
    returns-2)
