-- `elect` meets its contract: it is the election of a plain query. Assumes nothing.
use Rattle.std.proofs.Common.{refl}
use Rattle.election.specs.Queries.{plain, right_lengths, flow_octets, number_for}
use Rattle.election.proofs.elect.Goals as goal

pub returns : goal.returns
unfolding right_lengths flow_octets number_for
returns c =
    let e = c.elect_query.ensures plain refl refl refl in
    record { answer = e.0; counted = e.1; none_named = e.2; forwarder = e.3 }
