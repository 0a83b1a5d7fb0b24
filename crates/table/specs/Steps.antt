-- What the step below an announcement promises to it. No call of document 01 cites these.
--   Stored c n b    == the number n and the words b are what the call's answer c says
--   admitted t e    == the answer to an entry that passed the checks before the last: 8 where its address is new and 64 are present
use Rattle.std.specs.Prelude.{ℕ, ◌≡◌, not, ◌||◌, List, [], ◌∷◌, length, ltb}
use Rattle.lists.specs.Checks.{first_refusal}
use Rattle.keyed.specs.Keyed.{has, insert}
use Rattle.layout.specs.Table.{Entry, Table, entry_key, table_of}
use Rattle.layout.specs.Words.{words_of}
use Rattle.table.specs.Table.{Change, changed}

abbrev pub Stored : Change → ℕ → List ℕ → Type 0
Stored c n b = (n ≡ c.number) × (b ≡ words_of c.table)

unfoldable pub admitted : Table → Entry → Change
admitted t e =
    changed (first_refusal ((not (has entry_key (entry_key e) t.entries || ltb (length t.entries) 64), 8) ∷ []))
    0
    t
    (table_of t.esi (insert entry_key e t.entries))
