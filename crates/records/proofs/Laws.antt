-- Laws of whether a record is taken. Assumes nothing.
use Prim.Native.Nat.{ℕ, ◌+◌, ◌≤◌, ◌<◌}
use mathlib.Core.Path.{◌≡◌, refl}
use mathlib.Core.Bool.{Bool, true, false, ◌&&◌}
use mathlib.Core.List.{List}
use lib.ListN.{length}
use lib.Dec.{leb}
use borrow.Author.Tests.{le-leb, lt-leb}
use Rattle.records.specs.Records.{takes}

and-false : (t : Bool) → (t && false) ≡ false
and-false true = refl
and-false false = refl

module _ (d : List ℕ) (at : ℕ) (p : List ℕ) where
  pub takes-room : at + 48 ≤ length d → length p ≤ 255 → takes d at p ≡ true
  unfolding takes
  takes-room h l = rw (le-leb (at + 48) (length d) h, le-leb (length p) 255 l)

  pub takes-short : length d < at + 48 → takes d at p ≡ false
  unfolding takes
  takes-short h = rw (lt-leb (at + 48) (length d) h)

  pub takes-long : 255 < length p → takes d at p ≡ false
  unfolding takes
  takes-long h = rw (lt-leb (length p) 255 h) (and-false (leb (at + 48) (length d)))

-- whether a record is taken, in all cases
pub ruleset taking = (takes-room, takes-short, takes-long)
