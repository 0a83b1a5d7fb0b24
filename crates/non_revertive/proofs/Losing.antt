-- Who loses by the orders of algorithms 2 and 3: by preference, and by DP where that is level. Assumes nothing.
use Prim.Native.Nat.{◌≤◌, ◌<◌}
use native.Mathlib.Omega.{arith}
use mathlib.Core.Path.{◌≡◌}
use mathlib.Core.Bool.{true, false}
use borrow.Author.Tests.{lt-ltb, le-ltb}
use Rattle.lists.proofs.Bools.{true-false}
use Rattle.lists.proofs.Numbers.{either}
use Rattle.layout.specs.Table.{Entry}
use Rattle.winner.specs.Winner.{better}

module _ (x w : Entry) where
  pub lower-loses : x.preference < w.preference → better 2 0 x w ≡ false
  unfolding better
  lower-loses h = rw (le-ltb w.preference x.preference (omega arith), lt-ltb x.preference w.preference h)

  pub higher-loses : w.preference < x.preference → better 3 0 x w ≡ false
  unfolding better
  higher-loses h = rw (le-ltb x.preference w.preference (omega arith), lt-ltb w.preference x.preference h)

  -- DP clear against DP set
  module _ (c : x.dp ≡ false) (s : w.dp ≡ true) where
    pub clear-loses-highest : x.preference ≤ w.preference → better 2 0 x w ≡ false
    unfolding better
    clear-loses-highest h =
        either x.preference w.preference lower-loses
        (λ k. rw (le-ltb w.preference x.preference h, le-ltb x.preference w.preference k, c, s))

    pub clear-loses-lowest : w.preference ≤ x.preference → better 3 0 x w ≡ false
    unfolding better
    clear-loses-lowest h =
        either w.preference x.preference higher-loses
        (λ k. rw (le-ltb x.preference w.preference h, le-ltb w.preference x.preference k, c, s))

  -- who is not better under 3 has no lower preference
  wins-lowest : x.preference < w.preference → better 3 0 x w ≡ true
  unfolding better
  wins-lowest h = rw (lt-ltb x.preference w.preference h)

  pub no_lower : better 3 0 x w ≡ false → w.preference ≤ x.preference
  no_lower f = either x.preference w.preference (λ h. absurd (true-false (wins-lowest h) f)) (λ k. k)
