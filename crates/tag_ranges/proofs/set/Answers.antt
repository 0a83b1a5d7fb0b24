-- `set`: a run that is refused leaves the words; where one is accepted, its words are stored, and the index of the ranges is made of them. Assumes nothing.
use native.Mathlib.Omega.{arith}
use mathlib.Core.Path.{ap, refl, ◌∙◌}
use lib.ListN.{length, length-drop}
use Rattle.std.proofs.Common.{rules, ◌≡◌, Result, Ok, Err, is_err, true, false}
use mathlib.Core.Path.{subst, sym}
use lib.Dec.{T}
use Rattle.refusals.specs.declared.Refusal.{Refusal}
use Rattle.refusals.specs.Numbers.{number_of}
use Rattle.refusals.proofs.Laws.{no-zero}
use Rattle.tag_ranges.proofs.Laws.{told-refused, part-from, length-tag-ranges, asks-room, told-set}
use Rattle.tag_ranges.proofs.set.Goals as goal

-- an answer that is a refusal has a number, and one that is none has not
numbered : (r : Result Unit Refusal) → is_err r ≡ true → number_of r ≡ 0 → ⊥
numbered (Err r) h e = no-zero r e
numbered (Ok u) h e = absurd (subst T (sym h) tt)

unnumbered : (r : Result Unit Refusal) → is_err r ≡ false → number_of r ≡ 0
unnumbered (Ok u) h = refl
unnumbered (Err r) h = absurd (subst T h tt)

pub returns-then-refused-clause-answer : goal.returns-then-refused-clause-answer
returns-then-refused-clause-answer c =
    let h : is_err c.set-answer.result ≡ true = search rules in
    (told-refused c.args.b.now c.requires _ c.args.run.now _ _ c.set-answer.ensures.answer (numbered c.set-answer.result h)).0

pub insert-requires : goal.insert-requires
insert-requires c = asks-room c.args.b.now c.requires _ c.args.run.now _ _ c.set-answer.ensures.answer c.set-answer.ensures.kept

pub slice_bounds-index-count : goal.slice_bounds-index-count
slice_bounds-index-count c = omega (arith, length-tag-ranges c.args.b.now c.requires)

pub slice_bounds-index-start : goal.slice_bounds-index-start
slice_bounds-index-start c = omega (arith, length-tag-ranges c.args.b.now c.requires)

pub index-requires : goal.index-requires
index-requires c =
    let g = c.insert.new.s in
    (ap length (part-from 49 g) ∙ omega (arith, length-drop 49 g, length-tag-ranges c.args.b.now c.requires), c.set-answer.ensures.kept)

pub returns : goal.returns
returns c =
    let told = told-set c.args.b.now c.requires _ c.args.run.now _ _ c.set-answer.ensures.answer c.set-answer.ensures.kept (unnumbered c.set-answer.result (search rules)) _ c.insert.ensures _ c.index.ensures in
    record { answer = told.0; kept = told.1 }
