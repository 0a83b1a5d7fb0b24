-- An octet more takes the register one octet on; at the end none is left.
use Rattle.std.proofs.Common.{ℕ, ◌+◌, drop, ap, sym, ◌∙◌, arith}
use Rattle.crc.specs.Crc.{crc_over}
use Rattle.hrw.proofs.Laws.{crc_over-next, crc_over-end}
use Rattle.hrw.proofs.crc_octets.Goals as goal

pub loop-octet-preserved : goal.loop-octet-preserved
loop-octet-preserved c =
    let l = c.loop-octet in
    let s = c.args.s.now in
    ap (λ (r : ℕ). crc_over r (drop (l.octet-index + 1) s)) c.crc_step-r.ensures ∙ sym (crc_over-next l.r s l.octet-index (omega arith)) ∙ l.invariant

pub returns : goal.returns
returns c =
    let l = c.loop-octet in
    sym (crc_over-end l.r c.args.s.now l.octet-index (omega arith)) ∙ l.invariant
