-- The election where the operator has set numbers and ranges of tags, for a plain query and for a multicast flow (document 02, M-106 and M-109). With none set and a plain
-- query it is document 01's.
--   Query                         == a plain query, or one for the flow (S,G) or (*,G), with the octets of S and G
--   is_address_length n             == whether an address of a flow may have n octets: 4 or 16
--   right_lengths q                == whether the addresses of the query q have right lengths
--   flow_octets q                  == the octets of its flow, S before G
--   number_for s q                 == the number that is set for its kind; 0 where none is, and for a plain query
--   agreed_on a n                  == whether the routes agree on the number n that is set, where a is the algorithm in use
--   plain_algorithm s tag a        == the algorithm of a plain query for a tag, where a is in use: algorithm 1 for a number that is set, and for 2 and 3 the one that the tag's
--                                    range names, if it is in one
--   method_for s q a tag i         == how one is chosen, where a is in use
--   method_of s q i l tag, candidates_of s l ready == the method and the candidates among the entries l
--   elect_with s q i l tag ready   == the whole answer
--   NoneNamed s q l tag ready r   == r is the refusal 12, which names nobody, exactly if no route is eligible
use Rattle.std.specs.Prelude.{ℕ, ◌≤◌, ◌≡◌, Bool, true, false, cond, not, ◌&&◌, ◌||◌, List, [], ◌++◌, length, ltb, eqb}
use Rattle.layout.specs.Table.{Entry}
use Rattle.tags.specs.Tags.{reserved_tag}
use Rattle.hrw.specs.Weight.{flow_digest_of}
use Rattle.ranges.specs.Ranges.{algorithm_in}
use Rattle.settings.specs.Settings.{Settings}
use Rattle.agreement.specs.Agreement.{in_use_with}
use Rattle.ready.specs.Ready.{candidates, candidate_set}
use Rattle.answers.specs.Answers.{Answer, refused_answer, Method, by_tag, answer_by}
use Rattle.refusals.specs.Refusals.{tag_reserved, ready_too_long, flow_length, none_eligible}

pub data Query : Type 0 where
  plain : Query
  by_source_group : List ℕ → List ℕ → Query
  by_any_source : List ℕ → Query

abbrev pub is_address_length : ℕ → Bool
is_address_length n = eqb n 4 || eqb n 16

-- S and G are both of 4 or both of 16 octets
unfoldable pub right_lengths : Query → Bool
right_lengths plain = true
right_lengths (by_source_group s g) = is_address_length (length s) && eqb (length s) (length g)
right_lengths (by_any_source g) = is_address_length (length g)

unfoldable pub flow_octets : Query → List ℕ
flow_octets plain = []
flow_octets (by_source_group s g) = s ++ g
flow_octets (by_any_source g) = g

unfoldable pub number_for : Settings → Query → ℕ
number_for s plain = 0
number_for s (by_source_group x g) = s.by_source_group
number_for s (by_any_source g) = s.by_any_source

unfoldable pub agreed_on : ℕ → ℕ → Bool
agreed_on a n = not (eqb n 0) && eqb a n

-- ranges act only where 2 or 3 is in use
unfoldable pub plain_algorithm : Settings → ℕ → ℕ → ℕ
plain_algorithm s tag a = cond (ltb a 2) a (cond (ltb 3 a) 1 (algorithm_in s.ranges tag a))

-- a flow of the agreed kind goes by its own digest, under algorithm 1's order, and the agreed number is told; every other query is a plain one
unfoldable pub method_for : Settings → Query → ℕ → ℕ → List ℕ → Method
method_for s q a tag i =
    cond (agreed_on a (number_for s q)) (record { algorithm = 1; digest = flow_digest_of (flow_octets q) tag i; told = a }) (by_tag (plain_algorithm s tag a) tag i)

abbrev pub method_of : Settings → Query → List ℕ → List Entry → ℕ → Method
method_of s q i l tag = method_for s q (in_use_with s l).algorithm tag i

abbrev pub candidates_of : Settings → List Entry → List (List ℕ) → List Entry
candidates_of s l ready = candidates (in_use_with s l).ac_df ready l

-- 10 for a reserved tag, 11 for a list over 64, 18 for a wrong length, 12 where no route is eligible
unfoldable pub elect_with : Settings → Query → List ℕ → List Entry → ℕ → List (List ℕ) → Answer
elect_with s q i l tag ready =
    cond (reserved_tag tag) (refused_answer tag_reserved)
    (cond (ltb 64 (length ready)) (refused_answer ready_too_long)
    (cond (right_lengths q) (answer_by (method_of s q i l tag) (candidates_of s l ready) (candidate_set (in_use_with s l).ac_df ready l) tag)
    (refused_answer flow_length)))

-- none is named, and 12 answered with zeros, exactly if no route is eligible; 10, 11 and 18 come first
abbrev pub NoneNamed : Settings → Query → List Entry → ℕ → List (List ℕ) → Answer → Type 0
NoneNamed s q l tag ready r =
    (r.number ≡ none_eligible → candidates_of s l ready ≡ [])
    × (reserved_tag tag ≡ false → length ready ≤ 64 → right_lengths q ≡ true → candidates_of s l ready ≡ [] → r ≡ refused_answer none_eligible)
