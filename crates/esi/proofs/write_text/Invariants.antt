-- Before offset i, the characters before it of the text stand in the buffer.
use Rattle.std.proofs.Common.{◌≡◌, ◌++◌, take, drop}
use Rattle.esi.specs.Text.{text_of}
use Rattle.esi.proofs.write_text.Given as goal

abbrev pub invariant-loop-offset : goal.invariant-loop-offset
invariant-loop-offset l = l.buf ≡ take l.offset (text_of l.esi) ++ drop l.offset l.fn.buf
