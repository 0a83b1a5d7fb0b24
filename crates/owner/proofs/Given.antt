-- What the empty table gets of an identifier, reserved or not. Assumes nothing.
use Prim.Native.Nat.{ℕ}
use native.Mathlib.Omega.{arith}
use mathlib.Core.Path.{◌≡◌, ap, ◌∙◌}
use mathlib.Core.Bool.{true, false}
use mathlib.Core.List.{List, ◌++◌}
use lib.ListN.{take, replicate}
use Rattle.octet_words.specs.Words.{low_first}
use Rattle.lists.specs.Lists.{Every}
use Rattle.esi.specs.Reserved.{reserved}
use Rattle.layout.specs.Table.{owner_of}
use Rattle.layout.specs.Words.{identifier_words, Octets}
use Rattle.owner.specs.Given.{Given}

zero-octets : Octets (replicate 10 0)
unfolding Every
zero-octets = omega arith

module _ (i b d : List ℕ) (z : d ≡ replicate 388 0) where
  pub given-reserved : b ≡ d → reserved i ≡ true → Given i 4 b
  unfolding owner_of identifier_words low_first
  given-reserved e h = (rw h, rw h (e ∙ z), rw h zero-octets)

  pub given-accepted : b ≡ take 385 d ++ identifier_words i → Octets i → reserved i ≡ false → Given i 0 b
  unfolding owner_of
  given-accepted e o h = (rw h, rw h (e ∙ ap (λ (l : List ℕ). take 385 l ++ identifier_words i) z), rw h o)
