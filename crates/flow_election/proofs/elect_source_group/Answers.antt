-- `elect_source_group` meets its contract: it is the election of the query for (S,G), with the number that is set for it. Assumes nothing.
use Rattle.std.proofs.Common.{refl, sym}
use Rattle.election.specs.Queries.{by_source_group, right_lengths, flow_octets, number_for}
use Rattle.flow_election.proofs.elect_source_group.Goals as goal

pub returns : goal.returns
unfolding right_lengths flow_octets number_for
returns c = c.elect_query.ensures (by_source_group c.args.source.now c.args.group.now) (search (c, sym)) (sym c.are_lengths-right.ensures) refl
