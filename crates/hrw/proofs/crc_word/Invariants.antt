-- The loop's invariant: the register has gone over eight bits for each octet passed.
use Rattle.std.proofs.Common.{◌≡◌, ◌*◌}
use Rattle.crc.specs.Crc.{crc_bits}
use Rattle.hrw.proofs.crc_word.Given as goal

abbrev pub invariant-loop : goal.invariant-loop
invariant-loop l = l.r ≡ crc_bits (8 * l.counter) l.fn.mixed
