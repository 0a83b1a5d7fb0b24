-- The backup takes over (document 02, M-113): once the forwarder is withdrawn, the backup that was named is the one elected, so that a daemon may install it in advance. A backup is named only where all routes
-- agree on another algorithm than 0, and they do so still without the forwarder.
--   without_router s a        == the state s after the withdrawal of the address a
--   NamesBackup x r          == the election's answer x names the backup that r names
--   TakesOver s tag ready r  == where r names a backup and e is the router elected upon the state s, the election after the withdrawal of e names the backup
--   TakesOverBy s c tag r    == the same in the election over both tables, beside the A-D routes c
use Rattle.std.specs.Prelude.{ℕ, ◌≡◌}
use mathlib.Core.List.{List, Memᴰ}
use Rattle.layout.specs.Table.{Entry}
use Rattle.table.specs.Table.{withdrawn}
use Rattle.segment_state.specs.State.{Segment}
use Rattle.election.specs.Queries.{plain}
use Rattle.answers.specs.Answers.{Answer}
use Rattle.backup.specs.Backup.{Backup}
use Rattle.forwarders.specs.Forwarders.{elect_in, elect_circuits, Names}

abbrev pub without_router : Segment → List ℕ → Segment
without_router s a = record { table = (withdrawn s.table a).table; settings = s.settings }

abbrev pub NamesBackup : Answer → Backup → Type 0
NamesBackup x r = (x.number ≡ 0) × (x.family ≡ r.family) × (x.address ≡ r.address)

abbrev pub TakesOver : Segment → ℕ → List (List ℕ) → Backup → Type 0
TakesOver s tag ready r = r.number ≡ 0 → (e : Entry) → Memᴰ e s.table.entries → Names (elect_in s plain tag ready) e.address
    → NamesBackup (elect_in (without_router s e.address) plain tag ready) r

abbrev pub TakesOverBy : Segment → List (List ℕ) → ℕ → Backup → Type 0
TakesOverBy s c tag r = r.number ≡ 0 → (e : Entry) → Memᴰ e s.table.entries → Names (elect_circuits s c tag) e.address
    → NamesBackup (elect_circuits (without_router s e.address) c tag) r
