-- A fresh segment: the words of an empty table that was given to an identifier, and settings with none set. Assumes nothing.
use Prim.Native.Nat.{ℕ}
use mathlib.Core.Path.{◌≡◌, ap₂, ◌∙◌}
use mathlib.Core.List.{List, ◌++◌}
use lib.ListN.{replicate}
use Rattle.layout.specs.Table.{Table}
use Rattle.table.specs.Table.{fresh_table}
use Rattle.table.proofs.Told.{fresh-told as table-told}
use Rattle.owner.specs.Given.{Given}
use Rattle.settings.specs.Settings.{Settings}
use Rattle.settings.proofs.Laws.{zeros-none}
use Rattle.segment_state.specs.State.{fresh_segment, segment_in, ValidSegment}
use Rattle.segment_state.proofs.Laws.{together}

pub fresh-told : (i : List ℕ) (n : ℕ) (b : List ℕ) → Given i n b
    → ((n ≡ (fresh_table i).number) × (segment_in (b ++ replicate 102 0) ≡ fresh_segment i)) × ValidSegment (b ++ replicate 102 0)
fresh-told i n b g =
    let t = table-told i n b g in
    let w = together b (replicate 102 0) t.1 zeros-none.1 in
    ((t.0.0, w.0 ∙ ap₂ (λ (x : Table) (y : Settings). record { table = x; settings = y }) t.0.2 zeros-none.0), w.1)
