-- `write_text`: one character more, and what is read back at the end. The check proves the rest.
use Rattle.std.proofs.Common.{◌≡◌, ◌++◌, false, drop, ◌∙◌, arith}
use Rattle.esi.specs.Reserved.{reserved}
use Rattle.esi.specs.Text.{text_of}
use Rattle.esi.proofs.Laws.{text_further, text_all, text_reads}
use Rattle.esi.proofs.write_text.Goals as goal

pub loop-offset-preserved : goal.loop-offset-preserved
loop-offset-preserved c =
    let l = c.loop-offset in
    rw (l.invariant, c.text_at.ensures) (text_further c.args.buf.now c.args.esi.now l.offset (omega arith) (omega arith))

pub returns-clause-round_trip : goal.returns-clause-round_trip
returns-clause-round_trip c =
    let d = c.args.buf.now in
    let s = c.args.esi.now in
    let accepted : reserved s ≡ false = cc in
    let all : c.loop-offset.buf ≡ text_of s ++ drop 29 d = c.loop-offset.invariant ∙ text_all d s c.loop-offset.offset (omega arith) in
    λ z. rw all (text_reads d s accepted (λ i. omega (arith, c.type_inv.esi i)))
