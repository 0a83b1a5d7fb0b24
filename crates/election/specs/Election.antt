-- Document 01's election for one Ethernet Tag ("The election"): for an identifier, the entries of its table in rising address order, a tag and a ready list. The
-- algorithm in use is defined in `agreement`, the candidates in `ready`, the elected one of them in `winner`, the answer in `answers`.
--   elect_of i l tag ready   == the whole answer
use Rattle.std.specs.Prelude.{ℕ, cond, List, length, ltb}
use Rattle.layout.specs.Table.{Entry}
use Rattle.tags.specs.Tags.{reserved_tag}
use Rattle.agreement.specs.Agreement.{in_use}
use Rattle.ready.specs.Ready.{candidates, candidate_set}
use Rattle.answers.specs.Answers.{Answer, refused_answer, by_tag, answer_by}
use Rattle.refusals.specs.Refusals.{tag_reserved, ready_too_long}

-- 10 for a reserved tag, 11 for a list over 64, 12 where no route is eligible
unfoldable pub elect_of : List ℕ → List Entry → ℕ → List (List ℕ) → Answer
elect_of i l tag ready =
    cond (reserved_tag tag) (refused_answer tag_reserved)
    (cond (ltb 64 (length ready)) (refused_answer ready_too_long)
    (answer_by (by_tag (in_use l).algorithm tag i) (candidates (in_use l).ac_df ready l) (candidate_set (in_use l).ac_df ready l) tag))
