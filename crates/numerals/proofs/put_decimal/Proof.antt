-- `put_decimal` meets its contract: a number below 256 by its three digits, any other spelled and stored as a run. Assumes nothing.
use Prim.Native.Nat.{◌-◌, ◌≤◌}
use native.Mathlib.Omega.{arith}
use mathlib.Core.Path.{◌∙◌}
use lib.ListN.{length, drop, length-drop}
use lib.Seq.{take_all}
use Rattle.lines.proofs.Laws.{put_as}
use borrow.Author.Rules.{rules}
use Rattle.numerals.proofs.put_decimal.Statement.{statement}
use Rattle.numerals.proofs.put_decimal.Tie as tie

returns-2 : tie.Need-returns
returns-2 c =
    let sp = c.spell-first in
    let l : length (drop sp.result sp.new.text) ≤ 20 - sp.result = simp length-drop (omega (arith, sp.auto.text)) in
    put_as c.put_run.ensures (take_all (20 - sp.result) (drop sp.result sp.new.text) l ∙ sp.ensures.1)

pub put_decimal_spec : {M : Type 1} → statement M
put_decimal_spec =
    tie.close
    (tie.spec
    (λ c. search rules)
    (λ c κs. search rules)
    (λ c. search rules)
    (λ c. search rules)
    (λ c. search rules)
    (λ c κs. search rules)
    (λ c. search rules)
    (λ c. search rules)
    (λ c. search rules)
    (λ c κs. search rules)
    (λ c. search rules)
    returns-2)
