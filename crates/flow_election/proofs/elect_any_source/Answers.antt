-- `elect_any_source` meets its contract: it is the election of the query for (*,G), with the number that is set for it. Assumes nothing.
use Rattle.std.proofs.Common.{refl, sym}
use Rattle.election.specs.Queries.{by_any_source, right_lengths, flow_octets, number_for}
use Rattle.flow_election.proofs.elect_any_source.Goals as goal

pub returns : goal.returns
unfolding right_lengths flow_octets number_for
returns c = c.elect_query.ensures (by_any_source c.args.group.now) (search (c, sym)) (sym c.is_address_length-right.ensures) refl
