-- The loop's invariant: the digits of the octets passed stand at the front of the text.
use Rattle.std.proofs.Common.{◌≡◌, ◌*◌, length, take}
use Rattle.lines.specs.Lines.{hex}
use Rattle.numerals.proofs.put_hex.Given as goal

abbrev pub invariant-loop-i : goal.invariant-loop-i
invariant-loop-i l = (length l.text ≡ 32) × (take (2 * l.i) l.text ≡ take (2 * l.i) (hex l.fn.s))
