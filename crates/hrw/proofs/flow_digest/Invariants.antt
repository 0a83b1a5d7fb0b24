-- Before each part the register is the one before it, and four words are at the end. Within a part, going on over what is left of it gives the register behind it.
use Rattle.std.proofs.Common.{length, drop, ◌≡◌, ◌+◌, ◌++◌}
use Rattle.octets.specs.Octets.{octets_of}
use Rattle.hrw.specs.Steps.{over_words, part_of}
use Rattle.hrw.proofs.Words.{register_at}
use Rattle.hrw.proofs.flow_digest.Given as goal

abbrev pub invariant-loop-part : goal.invariant-loop-part
invariant-loop-part l = (length l.last ≡ 4) × (l.r ≡ register_at l.part l.source l.group (octets_of 4 l.tag ++ l.esi))

abbrev pub invariant-loop-i : goal.invariant-loop-i
invariant-loop-i l = (over_words l.r (drop l.i (part_of l.part l.source l.group l.last)) ≡ register_at (l.part + 1) l.source l.group (octets_of 4 l.tag ++ l.esi))
