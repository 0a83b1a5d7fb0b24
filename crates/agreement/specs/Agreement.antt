-- The algorithm in use (document 01, "The election"; RFC 8584, section 2.2.1): that of all routes, if they carry one algorithm from 0 to 3 and one AC-DF
-- bit, with AC-DF as they say; otherwise algorithm 0 without AC-DF. DP and preference are not compared. Where the operator has set numbers (document 02,
-- M-106), all may agree on one of these as well.
--   carries a ac e    == whether the entry e carries the algorithm a and the AC-DF bit ac
--   all_carry a ac l   == whether all entries of l do
--   fallback          == algorithm 0 without AC-DF
--   in_use l           == the algorithm and the AC-DF bit in use among the entries l, as document 01 has it
--   usable s a        == whether all routes may agree on the algorithm a, where s is set
--   in_use_with s l     == the algorithm and the AC-DF bit in use among the entries l, where s is set; with none set it is document 01's
use Rattle.std.specs.Prelude.{ℕ, Bool, false, cond, ◌&&◌, ◌||◌, List, [], ◌∷◌, ltb, eqb}
use Rattle.std.specs.Bool.{beq}
use Rattle.lists.specs.Lists.{all}
use Rattle.layout.specs.Table.{Entry}
use Rattle.settings.specs.Settings.{Settings, is_set}
use Rattle.agreement.specs.declared.InUse.{InUse}

abbrev pub carries : ℕ → Bool → Entry → Bool
carries a ac e = eqb e.algorithm a && beq e.ac_df ac

unfoldable pub all_carry : ℕ → Bool → List Entry → Bool
all_carry a ac l = all (carries a ac) l

abbrev pub fallback : InUse
fallback = record { algorithm = 0; ac_df = false }

unfoldable pub in_use : List Entry → InUse
in_use [] = fallback
in_use (e ∷ l) = cond (ltb e.algorithm 4 && all_carry e.algorithm e.ac_df l) (record { algorithm = e.algorithm; ac_df = e.ac_df }) fallback

unfoldable pub usable : Settings → ℕ → Bool
usable s a = ltb a 4 || is_set s a

unfoldable pub in_use_with : Settings → List Entry → InUse
in_use_with s [] = fallback
in_use_with s (e ∷ l) = cond (usable s e.algorithm && all_carry e.algorithm e.ac_df l) (record { algorithm = e.algorithm; ac_df = e.ac_df }) fallback
