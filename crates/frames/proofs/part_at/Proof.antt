-- `part_at` meets its contract: one law for each answer. Assumes nothing.
use native.Mathlib.Omega.{arith}
use mathlib.Core.Path.{sym}
use borrow.Author.Rules.{rules}
use Rattle.frames.proofs.Answers.{frame-none, frame-first, frame-second, frame-begun}
use Rattle.frames.proofs.part_at.Statement.{statement}
use Rattle.frames.proofs.part_at.Tie as tie

returns : tie.Need-returns-then-s-from
returns c =
    let a = c.args in
    sym (frame-none a.s.now a.from (omega arith))

returns-2 : tie.Need-returns-then-s-from-2
returns-2 c =
    let a = c.args in
    sym (frame-first a.s.now a.from (omega arith) (omega arith))

returns-3 : tie.Need-returns-then-s-from-lt2
returns-3 c =
    let a = c.args in
    sym (frame-begun a.s.now a.from (omega arith) (omega arith) (omega arith) (λ h. omega arith))

returns-4 : tie.Need-returns-then-s-from-ne-MARK_SECOND
returns-4 c =
    let a = c.args in
    sym (frame-second a.s.now a.from (omega arith) (omega arith))

returns-5 : tie.Need-returns
returns-5 c =
    let a = c.args in
    sym (frame-begun a.s.now a.from (omega arith) (omega arith) (omega arith) (λ h. omega arith))

pub part_at_spec : {M : Type 1} → statement M
part_at_spec =
    tie.close
    (tie.spec
    returns
    (λ c. search rules)
    returns-2
    (λ c. search rules)
    returns-3
    (λ c. search rules)
    (λ c. search rules)
    returns-4
    returns-5)
