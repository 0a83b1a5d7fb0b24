-- Laws of the state's words: its two parts, and what is left of it when one of them is written anew. Assumes nothing.
use Prim.Native.Nat.{ℕ, ◌-◌}
use native.Mathlib.Omega.{arith}
use mathlib.Core.Path.{◌≡◌, subst}
use mathlib.Core.List.{List, ◌++◌}
use lib.ListN.{length, take, drop, length-drop}
use lib.Seq.{take-append_seam, drop-append_seam}
use Rattle.layout.specs.Words.{table_in, Valid}
use Rattle.layout.proofs.Words.{length-valid}
use Rattle.tag_ranges.proofs.Laws.{part-from, none-behind}
use Rattle.settings.specs.Settings.{settings_in, ValidSettings}
use Rattle.settings.proofs.Laws.{length-settings}
use Rattle.segment_state.specs.State.{segment_in, ValidSegment}

-- A STATE PUT TOGETHER from the words of a table and those of settings
module _ (x y : List ℕ) (v : Valid x) (w : ValidSettings y) where
  front : take 388 (x ++ y) ≡ x
  front = subst (λ (n : ℕ). take n (x ++ y) ≡ x) (length-valid x v) (take-append_seam x y)

  back : drop 388 (x ++ y) ≡ y
  back = subst (λ (n : ℕ). drop n (x ++ y) ≡ y) (length-valid x v) (drop-append_seam x y)

  pub together : (segment_in (x ++ y) ≡ record { table = table_in x; settings = settings_in y }) × ValidSegment (x ++ y)
  unfolding segment_in
  together = (rw (front, back), record { table = rw front v; settings = rw back w })

-- A STATE TAKEN APART
module _ (b : List ℕ) (v : ValidSegment b) where
  pub length-state : length b ≡ 490
  length-state = omega (arith, length-settings (drop 388 b) v.settings, length-drop 388 b)

  -- the words after the table's, as they are lent
  pub settings-part : take (length b - 388) (drop 388 b) ≡ drop 388 b
  settings-part = part-from 388 b

  pub valid-settings-part : ValidSettings (take (length b - 388) (drop 388 b))
  valid-settings-part = rw settings-part v.settings

  -- the table's words written anew, and the settings'
  pub table-written : (y : List ℕ) → Valid y → (segment_in (y ++ drop 388 b) ≡ record { table = table_in y; settings = (segment_in b).settings }) × ValidSegment (y ++ drop 388 b)
  unfolding segment_in
  table-written y w = together y (drop 388 b) w v.settings

  pub settings-written : (y : List ℕ) → ValidSettings y
      → (segment_in (take 388 b ++ (y ++ drop (length b - 388) (drop 388 b))) ≡ record { table = (segment_in b).table; settings = settings_in y })
      × ValidSegment (take 388 b ++ (y ++ drop (length b - 388) (drop 388 b)))
  unfolding segment_in
  settings-written y w = rw (none-behind 388 b y) (together (take 388 b) y v.table w)
