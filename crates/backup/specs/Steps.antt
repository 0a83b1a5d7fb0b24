-- What the steps of naming the backup promise to it. The promises of the public functions cite none of these.
--   SecondAt l m set tag at   == the entry of l at the place `at` is the one that the method m elects of those at the places of a set, without the first elected of them
--   Usable s l r              == what is in use where the settings s are set and l are the entries, or the refusal where there is none or algorithm 0 is in use
use Rattle.std.specs.Prelude.{ℕ, ◌<◌, ◌≡◌, ◌⊎◌, List, length, get_or, Result, Ok, Err}
use Rattle.layout.specs.Table.{Entry, no_entry}
use Rattle.places.specs.Places.{places}
use Rattle.winner.specs.Winner.{elected, entries_at}
use Rattle.answers.specs.Answers.{Method}
use Rattle.refusals.specs.Refusals.{none_eligible, algorithm_not_usable}
use Rattle.refusals.specs.Numbers.{refusal_number}
use Rattle.refusals.specs.declared.Refusal.{Refusal}
use Rattle.settings.specs.Settings.{Settings}
use Rattle.agreement.specs.Agreement.{in_use_with}
use Rattle.agreement.specs.declared.InUse.{InUse}
use Rattle.backup.specs.Backup.{without_forwarder}

abbrev pub SecondAt : List Entry → Method → ℕ → ℕ → ℕ → Type 0
SecondAt l m set tag at = (at < length l) × (get_or l at no_entry ≡ elected m.algorithm tag m.digest (without_forwarder m (entries_at l (places set)) tag))

abbrev pub Usable : Settings → List Entry → Result InUse Refusal → Type 0
Usable s l (Ok u) = (length l ≡ 0 → ⊥) × (u ≡ in_use_with s l) × (u.algorithm ≡ 0 → ⊥)
Usable s l (Err r) =
    ((length l ≡ 0) × (refusal_number r ≡ none_eligible))
    ⊎ ((length l ≡ 0 → ⊥) × ((in_use_with s l).algorithm ≡ 0) × (refusal_number r ≡ algorithm_not_usable))
