-- What the step of the agreement promises to it. No public promise cites these.
--   all_of_kind k l   == whether all entries of l are of the kind k, an algorithm and an AC-DF bit
use Rattle.std.specs.Prelude.{ℕ, Bool, List, eqb}
use Rattle.lists.specs.Lists.{all}
use Rattle.layout.specs.Table.{Entry}
use Rattle.layout.specs.Words.{kind_of}

unfoldable pub all_of_kind : ℕ → List Entry → Bool
all_of_kind k l = all (λ e. eqb (kind_of e) k) l
