-- `later` meets its contract: each case of what the record is has its turn. Assumes nothing.
use Prim.Native.Nat.{ℕ}
use mathlib.Core.Path.{◌≡◌, sym, ◌∙◌, subst}
use mathlib.Core.Bool.{false}
use mathlib.Core.List.{List}
use Rattle.layout.specs.Words.{table_in}
use Rattle.turns.proofs.Laws.{stepped-as}
use Rattle.judgement.specs.Judgement.{judged_of}
use Rattle.judgement.specs.declared.Judged.{Judged}
use Rattle.judgement.specs.declared.Judged.TheVariants.{Text, Announcement, Withdrawal, Query, Bad}
use Rattle.judgement.proofs.Laws.{Fits, judged-fits}
use Rattle.records.specs.Records.{turn_of, judged_turn}
use Rattle.records.proofs.Turns.{turn-of}
use borrow.Author.Rules.{rules}
use Rattle.records.proofs.later.Statement.{statement}
use Rattle.records.proofs.later.Tie as tie

-- what the payload has, and whose turn it is, where the record is j
module _ (c : tie.After-judge-judged) where
  abbrev start : tie.Start
  start = c.before.before.before.before

  abbrev p : List ℕ
  p = start.args.payload.now

  is : (j : Judged) → c.judge-judged.result ≡ j → judged_of false start.args.kind p ≡ j
  is j e = sym c.judge-judged.ensures ∙ e

  has : (j : Judged) → c.judge-judged.result ≡ j → Fits j p
  has j e = subst (λ (x : Judged). Fits x p) (is j e) (judged-fits false start.args.kind p)

  turn : (j : Judged) → c.judge-judged.result ≡ j → turn_of j (table_in start.args.t.now) p ≡ judged_turn (table_in start.args.t.now) false start.args.kind p
  turn j e = turn-of (table_in start.args.t.now) false start.args.kind p j (is j e)

announce-requires : tie.Need-announce-requires
announce-requires c κs =
    let told = c.before.before in
    let judged = told in
    let s = start judged.before in
    (s.requires.0, has judged.before Announcement told.in-Announcement.is, s.requires.2)

withdraw-requires : tie.Need-withdraw-requires
withdraw-requires c κs =
    let told = c in
    let judged = told.before.before in
    let s = start judged.before in
    (s.requires.0, has judged.before (Withdrawal _) told.in-Withdrawal.is, s.requires.2)

query-requires : tie.Need-query-requires
query-requires c κs =
    let told = c in
    let judged = told in
    let s = start judged.before.before in
    (s.requires.0, has judged.before.before (Query _) told.in-Query.is, s.requires.1, s.requires.2)

returns : tie.Need-returns-in-Text
unfolding turn_of
returns c =
    let called = c.before.before.before.before in
    let told = called.before.before.before in
    stepped-as called.begin.ensures (turn told.before Text told.in-Text.is)

returns-2 : tie.Need-returns-in-Announcement
unfolding turn_of
returns-2 c =
    let called = c.before.before.before.before in
    let told = called.before.before.before in
    stepped-as called.announce.ensures (turn told.before Announcement told.in-Announcement.is)

returns-3 : tie.Need-returns-in-Withdrawal
unfolding turn_of
returns-3 c =
    let called = c.before.before.before.before in
    let told = called in
    stepped-as called.withdraw.ensures (turn told.before.before.before.before (Withdrawal _) told.in-Withdrawal.is)

returns-4 : tie.Need-returns-in-Query
unfolding turn_of
returns-4 c =
    let called = c.before.before in
    let told = called in
    stepped-as called.query.ensures (turn told.before.before.before (Query _) told.in-Query.is)

returns-5 : tie.Need-returns-in-Bad
unfolding turn_of
returns-5 c =
    let called = c.before.before in
    let told = called.before.before in
    let judged = told in
    let s = start judged.before in
    stepped-as (called.refuse.ensures s.args.t.now s.requires.2) (turn judged.before Bad told.in-Bad.is)

pub later_spec : {M : Type 1} → statement M
later_spec =
    tie.close
    (tie.spec
    (λ c κs. search rules)
    (λ c. search rules)
    (λ c κs. search rules)
    (λ c. search rules)
    announce-requires
    (λ c. search rules)
    withdraw-requires
    (λ c. search rules)
    query-requires
    (λ c. search rules)
    (λ c κs. search rules)
    (λ c. search rules)
    (λ c. search rules)
    returns
    (λ c. search rules)
    (λ c. search rules)
    returns-2
    (λ c. search rules)
    (λ c. search rules)
    returns-3
    (λ c. search rules)
    (λ c. search rules)
    returns-4
    (λ c. search rules)
    returns-5)
