-- The loop's invariant: going on over what is left of s gives what all of s does.
use Rattle.std.proofs.Common.{◌≡◌, drop}
use Rattle.crc.specs.Crc.{crc_over}
use Rattle.hrw.proofs.crc_octets.Given as goal

abbrev pub invariant-loop-octet : goal.invariant-loop-octet
invariant-loop-octet l = crc_over l.r (drop l.octet-index l.s) ≡ crc_over l.fn.state l.s
