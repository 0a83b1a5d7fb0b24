-- One law for each answer: a mark that is wrong, a record that is cut, a whole one.
use Rattle.std.proofs.Common.{◌≡◌, ◌+◌, ◌<◌, get_or, sym, arith}
use Rattle.frames.proofs.Answers.{frame-mark, frame-short, frame-whole}
use Rattle.frames.proofs.frame_at.Goals as goal

pub returns-then-from_le_bytes-ne-MARK : goal.returns-then-from_le_bytes-ne-MARK
returns-then-from_le_bytes-ne-MARK c =
    let s = c.args.s.now in
    sym (frame-mark s c.args.at (omega arith) (λ e. absurd (omega arith)))

pub returns-then-last-at-2 : goal.returns-then-last-at-2
returns-then-last-at-2 c =
    let s = c.args.s.now in
    let at = c.args.at in
    let small : get_or s at 0 < 256 = (c.type_inv.s at).fits in
    let first : get_or s at 0 ≡ 0xD5 = omega arith in
    let second : get_or s (at + 1) 0 ≡ 0x4F = omega arith in
    sym (frame-short s at (omega arith) first second (get_or s (at + 3) 0) (omega arith) (omega arith))

pub returns : goal.returns
returns c =
    let s = c.args.s.now in
    let at = c.args.at in
    let small : get_or s at 0 < 256 = (c.type_inv.s at).fits in
    let first : get_or s at 0 ≡ 0xD5 = omega arith in
    let second : get_or s (at + 1) 0 ≡ 0x4F = omega arith in
    sym (frame-whole s at (omega arith) first second (get_or s (at + 3) 0) (omega arith) (omega arith))
