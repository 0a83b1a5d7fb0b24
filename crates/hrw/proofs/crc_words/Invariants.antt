-- The loop's invariant: going on over what is left of s gives what all of s does.
use Rattle.std.proofs.Common.{◌≡◌, ◌*◌, drop}
use Rattle.crc.specs.Crc.{crc_over}
use Rattle.hrw.proofs.crc_words.Given as goal

abbrev pub invariant-loop-i : goal.invariant-loop-i
invariant-loop-i l = crc_over l.r (drop (4 * l.i) l.s) ≡ crc_over l.fn.state l.s
