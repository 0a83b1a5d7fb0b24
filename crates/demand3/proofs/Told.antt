-- What a setting answers and leaves of the words of a state, from what it answers and leaves of the settings. Assumes nothing.
use Prim.Native.Nat.{ℕ, ◌-◌}
use mathlib.Core.Path.{ap, ◌∙◌}
use mathlib.Core.List.{List, ◌++◌}
use lib.ListN.{length, take, drop}
use Rattle.settings.specs.Settings.{Settings, SettingsChange, numbers_set, ranges_given, settings_in, ValidSettings, SettingsTold}
use Rattle.segment_state.specs.State.{Segment, segment_in, ValidSegment, SetTold}
use Rattle.segment_state.proofs.Laws.{settings-written, settings-part}
use Rattle.demand3.specs.Calls.{Call, set_numbers, set_ranges, change_reply, Changes}
use Rattle.demand3.specs.Demand3.{Follows}
use Rattle.demand3.proofs.Calls.{numbers-changes, ranges-changes}
use Rattle.demand3.proofs.Demand3.{lands}

module _ (b : List ℕ) (v : ValidSegment b) (n : ℕ) (y : List ℕ) (w : ValidSettings y) where
  abbrev before : Segment
  before = segment_in b

  abbrev anew : List ℕ
  anew = take 388 b ++ (y ++ drop (length b - 388) (drop 388 b))

  abbrev pub Set : Call → SettingsChange → Type 0
  Set c k = SetTold k before.table n anew × ValidSegment anew × Changes before c n (segment_in anew) × Follows before c (change_reply n) (segment_in anew)

  -- any call that sets
  set_told : (c : Call) (k : SettingsChange) → Changes before c n (record { table = before.table; settings = settings_in y }) → SettingsTold k n y → Set c k
  unfolding segment_in
  set_told c k h o =
      let e = settings-written b v y w in
      let t = lands before c n (segment_in anew) _ e.0 h in
      ((o.0, e.0 ∙ ap (λ (s : Settings). record { table = before.table; settings = s }) o.1), e.1, t.0, t.1)

  pub numbers-told : (x z : ℕ) → SettingsTold (numbers_set (settings_in (take (length b - 388) (drop 388 b))) x z) n y → Set (set_numbers x z) (numbers_set before.settings x z)
  unfolding segment_in
  numbers-told x z h =
      let o : SettingsTold (numbers_set before.settings x z) n y = rw (settings-part b v) at h in
      set_told (set_numbers x z) (numbers_set before.settings x z) (numbers-changes before x z n y o) o

  pub ranges-told : (run : List ℕ) → SettingsTold (ranges_given (settings_in (take (length b - 388) (drop 388 b))) run) n y → Set (set_ranges run) (ranges_given before.settings run)
  unfolding segment_in
  ranges-told run h =
      let o : SettingsTold (ranges_given before.settings run) n y = rw (settings-part b v) at h in
      set_told (set_ranges run) (ranges_given before.settings run) (ranges-changes before run n y o) o
