-- What an announcement and a withdrawal answer and leave of a state, from what they answer and leave of its table. Assumes nothing.
use Prim.Native.Nat.{ℕ}
use mathlib.Core.Path.{ap, ◌∙◌}
use mathlib.Core.List.{List, ◌++◌}
use lib.ListN.{drop}
use Rattle.layout.specs.Table.{Table}
use Rattle.layout.specs.Words.{Valid}
use Rattle.table.specs.Table.{Change, Told}
use Rattle.segment_state.specs.State.{Segment, segment_in, ValidSegment, SegmentTold}
use Rattle.segment_state.proofs.Laws.{table-written}
use Rattle.demand3.specs.Calls.{Call, change_reply, Changes}
use Rattle.demand3.specs.Demand3.{Follows}
use Rattle.demand3.proofs.Calls.{table-changes}
use Rattle.demand3.proofs.Demand3.{lands}

module _ (b : List ℕ) (v : ValidSegment b) where
  abbrev before : Segment
  before = segment_in b

  -- the call c, which answers and leaves the change k of the table
  pub table-told : (c : Call) (k : Change) → Changes before c k.number (record { table = k.table; settings = before.settings })
      → (n p : ℕ) (y : List ℕ) → Told k n p y → Valid y
      → SegmentTold k before.settings n p (y ++ drop 388 b)
      × ValidSegment (y ++ drop 388 b)
      × Changes before c n (segment_in (y ++ drop 388 b))
      × Follows before c (change_reply n) (segment_in (y ++ drop 388 b))
  table-told c k h n p y o w =
      let e = table-written b v y w in
      let t = lands before c n (segment_in (y ++ drop 388 b)) _ e.0 (table-changes before c k n p y h o) in
      ((o.0, o.1, e.0 ∙ ap (λ (x : Table). record { table = x; settings = before.settings }) o.2), e.1, t.0, t.1)
