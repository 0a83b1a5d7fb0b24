-- `write`: what is stored are the octets of the community. The check proves the rest.
use Rattle.std.proofs.Common.{arith}
use Rattle.community.proofs.Laws.{image, wrote}
use Rattle.community.proofs.write.Goals as goal

pub returns : goal.returns
returns c =
    let octets = image _ _ _ _ _ _ _ c.under-e.ensures c.capabilities-flags.ensures c.of_u16-p.ensures in
    let all = wrote c.args.buf.now _ _ _ _ (omega arith) (omega arith) c.ranges.preference.fits _ _ octets c.store.ensures in
    record { number = all.0; written = all.1.0; reads = all.1.1 }
