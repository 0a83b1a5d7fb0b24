-- `community_at` meets its contract: the word of attributes taken apart, and written by the community's writer. Assumes nothing.
use Prim.Native.Nat.{◌/◌, ◌%◌, ◌≤◌}
use native.Mathlib.Omega.{arith}
use mathlib.Core.Path.{◌≡◌, refl, ap, ◌∙◌}
use lib.ListN.{get_or}
use lib.Dec.{eqb}
use borrow.Author.Rules.{rules}
use Rattle.lists.proofs.Lists.{every_in}
use Rattle.layout.specs.Table.{Entry, no_entry, EntryRight}
use Rattle.layout.specs.Words.{kind_of, standing_of, table_in}
use Rattle.log_payloads.proofs.Laws.{half, odd, community-left}
use Rattle.log_payloads.proofs.community_at.Statement.{statement}
use Rattle.log_payloads.proofs.community_at.Tie as tie

-- what is known once both parts of the word are
module _ (told : tie.After-standing_at-standing) where
  abbrev start : tie.Start
  start = told.before.before.before

  abbrev entry : Entry
  entry = get_or (table_in start.args.t.now).entries start.args.at no_entry

  algorithm-is : told.kind_at-kind.result / 2 ≡ entry.algorithm
  unfolding kind_of
  algorithm-is = ap (◌/ 2) told.kind_at-kind.ensures ∙ half entry.algorithm entry.ac_df

  algorithm-small : told.kind_at-kind.result / 2 ≤ 31
  algorithm-small = rw algorithm-is (every_in EntryRight (table_in start.args.t.now).entries start.args.at no_entry start.requires.0.sound.right start.requires.1).0

  ac-df-is : eqb (told.kind_at-kind.result % 2) 1 ≡ entry.ac_df
  unfolding kind_of
  ac-df-is = ap (λ n. eqb (n % 2) 1) told.kind_at-kind.ensures ∙ odd entry.algorithm entry.ac_df

  preference-is : told.standing_at-standing.result / 2 ≡ entry.preference
  unfolding standing_of
  preference-is = ap (◌/ 2) told.standing_at-standing.ensures.0 ∙ half entry.preference entry.dp

  dp-is : eqb (told.standing_at-standing.result % 2) 1 ≡ entry.dp
  unfolding standing_of
  dp-is = ap (λ n. eqb (n % 2) 1) told.standing_at-standing.ensures.0 ∙ odd entry.preference entry.dp

returns : tie.Need-returns
returns c =
    let told = c.before.before.before in
    community-left _ _ (entry told) _ _ _ _ refl (algorithm-small told) (algorithm-is told) (ac-df-is told) (dp-is told) (preference-is told) c.write.ensures.1.0

pub community_at_spec : {M : Type 1} → statement M
community_at_spec =
    tie.close
    (tie.spec
    (λ c κs. search rules)
    (λ c κs. search rules)
    (λ c. omega (arith, algorithm-small c))
    (λ c. search rules)
    (λ c. search rules)
    (λ c κs. search rules)
    returns)
