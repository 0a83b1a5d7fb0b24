-- `advance` meets its contract: too little room and an ended run are reasons to stop. Assumes nothing.
use native.Mathlib.Omega.{arith}
use mathlib.Core.Path.{sym, ◌∙◌}
use Rattle.turns.specs.Turns.{state_in}
use Rattle.blocks.proofs.Blocks.{stopped-ended, stopped-room, advanced-none}
use borrow.Author.Rules.{rules}
use Rattle.blocks.proofs.advance.Statement.{statement}
use Rattle.blocks.proofs.advance.Tie as tie

returns : tie.Need-returns-then-room-lt-LINE_ROOM
returns c =
    let s = c.before.before.before.before in
    let a = s.args in
    (advanced-none (state_in a.phase a.t.now) a.input.now a.used a.out.now a.wrote s.requires.0 a.phase s.requires.1 (stopped-room _ _ _ (omega (arith, c.if-room-lt-LINE_ROOM.true))), s.requires.2)

returns-2 : tie.Need-returns-then-ended
returns-2 c =
    let s = c.before.before.before.before.before.before in
    let a = s.args in (
      advanced-none (state_in a.phase a.t.now) a.input.now a.used a.out.now a.wrote s.requires.0 a.phase s.requires.1
          (stopped-ended _ _ _ (sym c.ended.ensures ∙ c.if-ended.true)),
      s.requires.2,
    )

take-record-requires : tie.Need-take_record-requires
take-record-requires c κs =
    let s = c.before.before.before.before.before.before.before.before in
    (s.requires.0, omega arith, sym c.ended.ensures ∙ c.if-ended.false, s.requires.2)

pub advance_spec : {M : Type 1} → statement M
advance_spec =
    tie.close
    (tie.spec
    (λ c. search rules)
    returns
    (λ c κs. search rules)
    returns-2
    take-record-requires
    (λ c. search rules)
    (λ c. search rules)
    (λ c. search rules))
