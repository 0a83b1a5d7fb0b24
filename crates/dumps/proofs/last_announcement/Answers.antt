-- A record that is found in either dump is handed back by its law of `Answers`. The refusals are found by their numbers.
use Rattle.std.proofs.Common.{refl, sym, ap, ◌∙◌, rules, arith, ◌≡◌}
use Rattle.std.specs.Prelude.{Result, Ok, Err}
use Rattle.refusals.specs.declared.Refusal.{Refusal}
use Rattle.refusals.proofs.Laws.{no-zero}
use Rattle.dumps.specs.declared.Part.{Part}
use Rattle.dumps.specs.Dumps.{place_of}
use Rattle.dumps.proofs.Answers.{in-first, in-second}
use Rattle.dumps.proofs.last_announcement.Goals as goal

-- a search that found nothing answers no 0
unfound : (r : Result Part Refusal) → ((p : Part) → r ≡ Ok p → ⊥) → (place_of r).number ≡ 0 → ⊥
unfound (Ok p) h e = h p refl
unfound (Err x) h e = no-zero x e

pub returns-in-Ok : goal.returns-in-Ok
returns-in-Ok c =
    in-first _ _ _ _ (sym c.is_zero.ensures ∙ c.if-is_zero.false) _ _ (ap place_of (sym c.in-Ok.is) ∙ c.last-one.ensures) c.last-two.ensures (λ e. omega (arith, e)) (search rules) refl refl refl

pub returns-in-Ok-two : goal.returns-in-Ok-two
returns-in-Ok-two c =
    in-second _ _ _ _ (sym c.is_zero.ensures ∙ c.if-is_zero.false) _ _ c.last-one.ensures (ap place_of (sym c.in-Ok-two.is) ∙ c.last-two.ensures) (search rules) (λ e. omega (arith, e)) (unfound _ (search rules)) refl refl refl
