-- Laws of the election over both tables: the list of the ready routers is never too long, and what is answered where none of them is eligible. Assumes nothing.
use Prim.Native.Nat.{ℕ, ◌≤◌}
use native.Mathlib.Omega.{arith}
use mathlib.Core.Path.{◌≡◌, refl, ap, ◌∙◌, sym}
use mathlib.Core.Bool.{false}
use mathlib.Core.List.{List, []}
use lib.ListN.{length}
use Rattle.tags.specs.Tags.{reserved_tag}
use Rattle.layout.specs.Table.{Table, WellFormed}
use Rattle.settings.specs.Settings.{Settings}
use Rattle.agreement.specs.Agreement.{in_use_with}
use Rattle.ready.specs.Ready.{candidates, candidate_set}
use Rattle.circuit_ready.specs.Routers.{ready_routers}
use Rattle.circuit_ready.proofs.Laws.{length-routers}
use Rattle.answers.specs.Answers.{Answer, refused_answer}
use Rattle.election.specs.Queries.{plain, right_lengths}
use Rattle.election.specs.Steps.{Elected}
use Rattle.election.proofs.Laws.{elects-12, never-long}
use Rattle.circuit_election.specs.Over.{elect_over}

module _ (s : Settings) (t : Table) (c : List (List ℕ)) (tag : ℕ) (w : WellFormed t) where
  abbrev list : List (List ℕ)
  list = ready_routers c tag t.entries

  pub routers_few : length list ≤ 64
  routers_few = omega (arith, length-routers c tag t.entries, w.short)

  pub not_long : {r : Answer} → Elected s plain t.esi t.entries tag list r → r.number ≡ 11 → ⊥
  not_long e h = never-long s plain t.esi t.entries tag list routers_few (sym (ap (λ (r : Answer). r.number) e.0) ∙ h)

  module _ (free : reserved_tag tag ≡ false) (z : candidate_set (in_use_with s t.entries).ac_df list t.entries ≡ 0) where
    none : Elected s plain t.esi t.entries tag list (refused_answer 12)
    unfolding right_lengths
    none = elects-12 s plain t w tag list (in_use_with s t.entries) refl free routers_few refl _ refl z

    pub over_none : elect_over s t.esi t.entries c tag ≡ refused_answer 12
    unfolding elect_over
    over_none = sym none.0

    pub nobody : candidates (in_use_with s t.entries).ac_df list t.entries ≡ []
    nobody = none.2.0 refl
