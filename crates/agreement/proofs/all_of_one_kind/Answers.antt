-- Assumes nothing.
use Rattle.std.proofs.Common.{◌≡◌, ◌+◌, ◌/◌, ◌<◌, ◌&&◌, ℕ, Bool, List, eqb, length, get_or, drop, refl, ap, arith}
use mathlib.Core.Path.{ap₂, ◌∙◌}
use Rattle.layout.specs.Table.{Entry, no_entry}
use Rattle.layout.specs.Words.{kind_of, attributes_of, table_in, Valid}
use Rattle.layout.proofs.Words.{attributes-kind}
use Rattle.agreement.specs.Steps.{all_of_kind}
use Rattle.agreement.proofs.Laws.{kinds-differ, kind-next, kind-end}
use Rattle.agreement.proofs.all_of_one_kind.Goals as goal

-- the kind of the first entry
abbrev kind : List Entry → ℕ
kind es = kind_of (get_or es 0 no_entry)

-- whether an entry's word is of the kind of another's
alike : (b : List ℕ) → Valid b → (i : ℕ) → i < length (table_in b).entries → 0 < length (table_in b).entries → (w v : ℕ)
    → w ≡ attributes_of (get_or (table_in b).entries i no_entry)
    → v ≡ attributes_of (get_or (table_in b).entries 0 no_entry)
    → eqb (w / 131072) (v / 131072) ≡ eqb (kind_of (get_or (table_in b).entries i no_entry)) (kind (table_in b).entries)
alike b h i l z w v p q = ap₂ eqb (ap (λ (n : ℕ). n / 131072) p ∙ attributes-kind b h i l) (ap (λ (n : ℕ). n / 131072) q ∙ attributes-kind b h 0 z)

pub loop-i-init : goal.loop-i-init
loop-i-init c = refl

pub loop-i-preserved : goal.loop-i-preserved
loop-i-preserved c =
    let b = c.args.t.now in
    let es = (table_in b).entries in
    let i = c.loop-i.i in
    let d = c.loop-i.differ in
    let l : i < length es = omega arith in
    ap (λ (x : Bool). x && all_of_kind (kind es) (drop (i + 1) es)) (kinds-differ d c.attributes_at.result c.attributes_at-first.result
    ∙ ap (λ (x : Bool). eqb (d / 131072) 0 && x) (alike b c.requires.0 i l c.requires.1 _ _ c.attributes_at.ensures c.attributes_at-first.ensures))
    ∙ kind-next (kind es) es i l (eqb (d / 131072) 0) c.loop-i.invariant

pub returns : goal.returns
returns c =
    let es = (table_in c.args.t.now).entries in
    ap (λ (x : ℕ). eqb x 0) c.kind_of.ensures ∙ kind-end (kind es) es c.loop-i.i (eqb (c.loop-i.differ / 131072) 0) (omega arith) c.loop-i.invariant
