-- What the steps of an election promise to it. The promises of the elections themselves cite none of these.
--   digest_under a f tag i       == the digest of the flow f and the tag on the segment i under algorithm 1, and 0 under the others, which ask for none; of a plain query f is empty
--   ElectedAt l a d set tag at  == the entry of l at the place `at` is the elected one of those at the places of a set, under the algorithm a and the digest d
use Rattle.std.specs.Prelude.{ℕ, ◌<◌, ◌≡◌, cond, List, length, get_or, eqb}
use Rattle.layout.specs.Table.{Entry, no_entry}
use Rattle.places.specs.Places.{places}
use Rattle.hrw.specs.Weight.{flow_digest_of}
use Rattle.winner.specs.Winner.{elected, entries_at}

unfoldable pub digest_under : ℕ → List ℕ → ℕ → List ℕ → ℕ
digest_under a f tag i = cond (eqb a 1) (flow_digest_of f tag i) 0

abbrev pub ElectedAt : List Entry → ℕ → ℕ → ℕ → ℕ → ℕ → Type 0
ElectedAt l a d set tag at = (at < length l) × (get_or l at no_entry ≡ elected a tag d (entries_at l (places set)))
