-- `put_dotted` meets its contract: the address is spelled, and stored as a run. Assumes nothing.
use native.Mathlib.Omega.{arith}
use mathlib.Core.Path.{◌∙◌, sym, ap}
use Prim.Native.Nat.{◌≤◌}
use mathlib.Core.List.{[], ◌∷◌}
use lib.ListN.{length}
use Rattle.lines.specs.Lines.{dotted}
use Rattle.lines.proofs.Laws.{put_as, put_front, put-length, length-dotted}
use borrow.Author.Rules.{rules}
use Rattle.numerals.proofs.put_dotted.Statement.{statement}
use Rattle.numerals.proofs.put_dotted.Tie as tie

room : (s : tie.Start) → length (dotted (s.args.a ∷ s.args.b ∷ s.args.c ∷ s.args.d ∷ [])) ≤ 15
room s = length-dotted s.args.a s.args.b s.args.c s.args.d s.ranges.a.fits s.ranges.b.fits s.ranges.c.fits s.ranges.d.fits

array-share-prefix-text : tie.Need-slice_bounds-text-end
array-share-prefix-text c =
    let sp = c.spell_dotted-end in
    let l = room c.before.before.before.before.before in
    omega (arith, (put_front sp.ensures l).0, put-length sp.ensures, l)

slice-aggregate-put-run : tie.Need-slice_bounds-put_run-end
slice-aggregate-put-run c =
    let f = put_front c.spell_dotted-end.ensures (room c.before.before.before.before.before.before) in
    f.0 ∙ sym (ap length f.1)

returns : tie.Need-returns
returns c =
    let f = put_front c.spell_dotted-end.ensures (room c.before.before.before.before.before.before.before.before.before) in
    put_as c.put_run.ensures f.1

pub put_dotted_spec : {M : Type 1} → statement M
put_dotted_spec =
    tie.close
    (tie.spec
    (λ c. search rules)
    (λ c κs. search rules)
    array-share-prefix-text
    slice-aggregate-put-run
    (λ c κs. search rules)
    (λ c. search rules)
    returns)
