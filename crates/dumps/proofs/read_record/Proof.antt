-- `read_record` meets its contract: one case for each thing that a record is. Assumes nothing.
use mathlib.Core.Path.{◌≡◌, refl, sym, ◌∙◌, subst}
use mathlib.Core.Bool.{false}
use mathlib.Core.List.{List}
use Prim.Native.Nat.{ℕ}
use lib.Dec.{eqb}
use borrow.Author.Rules.{rules}
use Rattle.address.specs.Address.{address_row}
use Rattle.judgement.specs.Judgement.{judged_of, is_bad}
use Rattle.judgement.specs.declared.Judged.{Judged}
use Rattle.judgement.specs.declared.Judged.TheVariants.{Text, Announcement, Withdrawal, Query, Bad}
use Rattle.judgement.proofs.Laws.{Fits, judged-fits, Named, judged-named}
use Rattle.dumps.specs.Reads.{record_read}
use Rattle.dumps.specs.declared.Read.TheVariants.{Passed}
use Rattle.dumps.proofs.Counted.{read-bad, read-other, read-counted, read-passed}
use Rattle.dumps.proofs.read_record.Statement.{statement}
use Rattle.dumps.proofs.read_record.Tie as tie

-- what the record is, and what then is known of it
module _ (c : tie.After-judge-judged) where
  abbrev start : tie.Start
  start = c.before.before

  abbrev p : List ℕ
  p = start.args.payload.now

  is : (j : Judged) → c.judge-judged.result ≡ j → judged_of start.args.first start.args.kind p ≡ j
  is j e = sym c.judge-judged.ensures ∙ e

  has : (j : Judged) → c.judge-judged.result ≡ j → Fits j p
  has j e = subst (λ (x : Judged). Fits x p) (is j e) (judged-fits start.args.first start.args.kind p)

  named : (j : Judged) → c.judge-judged.result ≡ j → Named j start.args.kind
  named j e = subst (λ (x : Judged). Named x start.args.kind) (is j e) (judged-named start.args.kind p start.args.first)

  -- the text of an identifier, a withdrawal and a query are passed over
  passed : (j : Judged) → c.judge-judged.result ≡ j → is_bad j ≡ false → eqb start.args.kind 1 ≡ false
      → Passed start.args.after ≡ record_read (address_row start.args.address) start.args.first start.args.kind p start.args.after
  passed j e g h = read-other _ _ _ _ _ j (is j e) g h

is-of-requires : tie.Need-is_of-requires
is-of-requires c κs = has c.before Announcement c.in-Announcement.is

returns : tie.Need-returns-then-is_of
returns c =
    let told = c.before.before in
    let judged = told.before in
    let e = told.in-Announcement.is in
    read-counted _ _ _ _ _ (is judged Announcement e) (named judged Announcement e) (sym c.is_of.ensures ∙ c.if-is_of.true)

returns-2 : tie.Need-returns-in-Text
unfolding is_bad
returns-2 c = let e = c.in-Text.is in passed c.before Text e refl (named c.before Text e)

returns-3 : tie.Need-returns-else-is_of
returns-3 c =
    let told = c.before.before in
    let judged = told.before in
    let e = told.in-Announcement.is in
    read-passed _ _ _ _ _ (is judged Announcement e) (named judged Announcement e) (sym c.is_of.ensures ∙ c.if-is_of.false)

returns-4 : tie.Need-returns-in-Withdrawal
unfolding is_bad
returns-4 c = let e = c.in-Withdrawal.is in passed c.before (Withdrawal _) e refl (named c.before (Withdrawal _) e)

returns-5 : tie.Need-returns-in-Query
unfolding is_bad
returns-5 c = let e = c.in-Query.is in passed c.before (Query _) e refl (named c.before (Query _) e)

returns-6 : tie.Need-returns-in-Bad
returns-6 c = read-bad _ _ _ _ _ (is c.before Bad c.in-Bad.is)

pub read_record_spec : {M : Type 1} → statement M
read_record_spec =
    tie.close
    (tie.spec
    (λ c κs. search rules)
    (λ c. search rules)
    (λ c. search rules)
    is-of-requires
    returns
    (λ c. search rules)
    (λ c. search rules)
    (λ c. search rules)
    returns-2
    returns-3
    returns-4
    returns-5
    returns-6)
