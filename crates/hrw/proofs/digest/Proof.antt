-- `digest` meets its contract: it is the digest of a flow of no octets. Assumes nothing.
use borrow.Author.Rules.{rules}
use Rattle.hrw.specs.Weight.{digest_of, flow_digest_of}
use Rattle.hrw.proofs.digest.Statement.{statement}
use Rattle.hrw.proofs.digest.Tie as tie

returns : tie.Need-returns
unfolding digest_of flow_digest_of
returns c = c.flow_digest.ensures

pub digest_spec : {M : Type 1} → statement M
digest_spec =
    tie.close
    (tie.spec
    (λ c. search rules)
    (λ c. search rules)
    (λ c κs. search rules)
    returns)
