-- What the identifier's functions promise to those that make a table. No public promise cites it.
--   Given i n b   == the number n and the words b are what the empty table gets of the identifier i
use Rattle.std.specs.Prelude.{ℕ, ◌≡◌, cond, List, ◌++◌, replicate}
use Rattle.esi.specs.Reserved.{reserved}
use Rattle.layout.specs.Table.{owner_of}
use Rattle.layout.specs.Words.{identifier_words, Octets}
use Rattle.refusals.specs.Refusals.{esi_reserved}

abbrev pub Given : List ℕ → ℕ → List ℕ → Type 0
Given i n b = (n ≡ cond (reserved i) esi_reserved 0) × (b ≡ replicate 385 0 ++ identifier_words (owner_of i)) × Octets (owner_of i)
