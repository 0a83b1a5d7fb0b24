-- `take_record` meets its contract: what stands at the position decides, one law for each case. Assumes nothing.
use Prim.Native.Nat.{◌+◌}
use native.Mathlib.Omega.{arith}
use mathlib.Core.Path.{sym, ◌∙◌}
use Rattle.frames.proofs.Laws.{frame-told, whole-at-length}
use Rattle.turns.specs.Turns.{state_in}
use Rattle.answer_lines.proofs.Laws.{written}
use Rattle.records.proofs.Laws.{takes-room}
use Rattle.blocks.proofs.Blocks.{part_length, stopped-nothing, stopped-cut, advanced-none, advanced-bad, advanced-whole}
use borrow.Author.Rules.{rules}
use Rattle.blocks.proofs.take_record.Statement.{statement}
use Rattle.blocks.proofs.take_record.Tie as tie

add-after : tie.Need-overflow_add-after
add-after c =
    let a = c.args in
    let w = frame-told a.input.now a.used (sym c.frame_at-frame.ensures ∙ c.in-Whole.is) in
    omega (arith, w.fits)

part-take-turn-end : tie.Need-slice_bounds-take_turn-end
part-take-turn-end c =
    let a = c.args in
    let w = frame-told a.input.now a.used (sym c.frame_at-frame.ensures ∙ c.in-Whole.is) in
    omega (arith, w.fits)

returns : tie.Need-returns-in-Nothing
returns c =
    let s = c.before.before.before.before.before in
    let a = s.args in (
      advanced-none (state_in a.phase a.t.now) a.input.now a.used a.out.now a.wrote s.requires.0 a.phase (omega arith)
          (stopped-nothing _ _ _ (frame-told a.input.now a.used (sym c.frame_at-frame.ensures ∙ c.in-Nothing.is))),
      s.requires.3,
    )

returns-2 : tie.Need-returns-in-Cut
returns-2 c =
    let s = c.before.before.before.before.before in
    let a = s.args in (
      advanced-none (state_in a.phase a.t.now) a.input.now a.used a.out.now a.wrote s.requires.0 a.phase (omega arith)
          (stopped-cut _ _ _ (frame-told a.input.now a.used (sym c.frame_at-frame.ensures ∙ c.in-Cut.is))),
      s.requires.3,
    )

returns-3 : tie.Need-returns-in-Bad
returns-3 c =
    let s = c.before.before.before.before.before.before.before.before.before in
    let a = s.args in (
      advanced-bad (state_in a.phase a.t.now) a.input.now a.used a.out.now a.wrote s.requires.0 a.t.now s.requires.2
          (frame-told a.input.now a.used (sym c.frame_at-frame.ensures ∙ c.in-Bad.is))
          (written c.put_bad-end.ensures (omega arith)),
      s.requires.3,
    )

returns-4 : tie.Need-returns-in-Whole
returns-4 c =
    let s = c.before.before.before.before.before.before.before.before.before.before.before.before.before in
    let a = s.args in
    let w = frame-told a.input.now a.used (sym c.frame_at-frame.ensures ∙ c.in-Whole.is) in
    let o = c.shared_slice_known-1.given (a.used + 3) in
    let t = c.take_turn-step.ensures.0 (takes-room a.out.now a.wrote _ (omega arith) (part_length _ _ _ w.fits (whole-at-length a.input.now o.fits w))) in
    (advanced-whole (state_in a.phase a.t.now) a.input.now a.used a.out.now a.wrote s.requires.0 _ _ _ _ _ _ s.requires.2 w t, t.kept)

pub take_record_spec : {M : Type 1} → statement M
take_record_spec =
    tie.close
    (tie.spec
    (λ c κs. search rules)
    (λ c. search rules)
    (λ c. search rules)
    (λ c. search rules)
    (λ c κs. search rules)
    (λ c. search rules)
    add-after
    (λ c. search rules)
    (λ c. search rules)
    part-take-turn-end
    (λ c κs. search rules)
    returns
    returns-2
    (λ c. search rules)
    returns-3
    (λ c. search rules)
    (λ c. search rules)
    returns-4)
