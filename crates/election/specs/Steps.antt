-- What the election promises of every query, and to its own functions.
--   Elected s q i l tag ready r        == the answer r is the election's, its N is the number of the ones of its candidate set, and what it says of who is named
--   ElectedFor s n right f i l tag ready r == so for every query of the number n, whose lengths are right or not, and of the flow octets f
use Rattle.std.specs.Prelude.{ℕ, ◌≡◌, Bool, List}
use Rattle.std.specs.Int.Count.{ones}
use Rattle.layout.specs.Table.{Entry}
use Rattle.settings.specs.Settings.{Settings}
use Rattle.answers.specs.Answers.{Answer, Forwarder}
use Rattle.election.specs.Queries.{Query, right_lengths, flow_octets, number_for, method_of, candidates_of, elect_with, NoneNamed}

abbrev pub Elected : Settings → Query → List ℕ → List Entry → ℕ → List (List ℕ) → Answer → Type 0
Elected s q i l tag ready r =
    (r ≡ elect_with s q i l tag ready)
    × (r.n ≡ ones r.candidates)
    × NoneNamed s q l tag ready r
    × (r.number ≡ 0 → Forwarder (method_of s q i l tag) (candidates_of s l ready) tag r)

abbrev pub ElectedFor : Settings → ℕ → Bool → List ℕ → List ℕ → List Entry → ℕ → List (List ℕ) → Answer → Type 0
ElectedFor s n right f i l tag ready r =
    (q : Query) → number_for s q ≡ n → right_lengths q ≡ right → flow_octets q ≡ f → Elected s q i l tag ready r
