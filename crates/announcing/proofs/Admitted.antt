-- What `admit` finds, and its answers. The place of an address is written as its rank here, not as what the search returned, so that each answer names all that its lemma takes. Assumes nothing.
use Prim.Native.Nat.{ℕ, ◌≤◌, ◌<◌}
use mathlib.Core.Path.{◌≡◌, refl, ◌∙◌}
use mathlib.Core.Bool.{Bool, true, false, cond}
use mathlib.Core.List.{List, [], ◌∷◌}
use lib.ListN.{length, get_or, set}
use Rattle.address.specs.Address.{address_row, address_key}
use Rattle.address.specs.declared.Address.{Address}
use Rattle.address.proofs.Laws.{row-address, row_words}
use Rattle.community.specs.declared.Election.{Election}
use Rattle.keyed.specs.Keyed.{rank, spliced, has}
use Rattle.keyed.proofs.Keyed as keyed
use Rattle.rows.specs.Rows.{found_in}
use Rattle.std.specs.Prelude.{Ok, Err}
use Rattle.rows.proofs.Compared.{Words}
use Rattle.rows.proofs.Places.{at_lt}
use Rattle.layout.specs.Table.{Entry, entry_key, no_entry, entry_of, table_of}
use Rattle.layout.specs.Words.{attributes_of, entry_in, words_of, table_in, Valid}
use Rattle.table.specs.Steps.{Stored, admitted}
use Rattle.table.proofs.Told.{told_at, told-new, told-full}

-- WHAT IS FOUND
pub found_by_rank : (m : ℕ) (l : List Entry) → found_in entry_key m l ≡ cond (has entry_key m l) (Ok (rank entry_key m l)) (Err (rank entry_key m l))
unfolding found_in
found_by_rank m l = refl

pub rank_there : (m : ℕ) (b : List ℕ) → Valid b → has entry_key m (table_in b).entries ≡ true → rank entry_key m (table_in b).entries < length (table_in b).entries
rank_there m b h n =
    let es = (table_in b).entries in
    at_lt entry_key m es 1 no_entry h.sound.rising (rank entry_key m es) (found_by_rank m es ∙ rw n)

-- THE ANSWERS
module _ (b : List ℕ) (a : Address) (algorithm : ℕ) (ac_df dp : Bool) (preference : ℕ) (h : Valid b) (q : preference < 65536) where
  abbrev es : List Entry
  es = (table_in b).entries

  abbrev key : ℕ
  key = address_key (address_row a)

  abbrev told : Election
  told = record { algorithm = algorithm; ac_df = ac_df; dp = dp; preference = preference }

  abbrev word : ℕ
  word = attributes_of (entry_of [] told)

  abbrev Answered : ℕ → List ℕ → Type 0
  Answered = Stored (admitted (table_in b) (entry_of (address_row a) told))

  missing : has entry_key key es ≡ false → found_in entry_key key es ≡ Err (rank entry_key key es)
  missing n = found_by_rank key es ∙ rw n

  -- a new address, where 64 are present and where fewer are
  pub answer_full : has entry_key key es ≡ false → 64 ≤ length es → Answered 8 b
  answer_full n s = told-full b h (address_row a) word _ told (refl, q) (missing n) s

  pub answer_new : has entry_key key es ≡ false → length es < 64
      → Answered 0 (words_of (table_of (table_in b).esi (spliced es (rank entry_key key es) (entry_in (address_row a) (word ∷ [])))))
  answer_new n s = told-new b h (address_row a) word _ told (refl, q) (missing n) s _ refl

  -- an address that is present
  pub answer_again : Words b → a.w0 < 4294967296 → a.w1 < 4294967296 → a.w2 < 4294967296 → a.w3 < 4294967296 → has entry_key key es ≡ true
      → Answered 0 (words_of (table_of (table_in b).esi (set es (rank entry_key key es) (entry_in (get_or es (rank entry_key key es) no_entry).address (word ∷ [])))))
  answer_again v k l m o n = told_at b h (address_row a) word _ told (refl, q) (row-address a) (row_words a k l m o) v (found_by_rank key es ∙ rw n) _ refl

-- what shows that `admit` meets its contract
pub ruleset admitting = (found_by_rank, keyed.rank-le, rank_there, answer_full, answer_new, answer_again)
