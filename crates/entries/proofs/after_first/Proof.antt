-- `after_first` meets its contract: the search goes on from the outcome of the look, and a row of another family names what is below every entry. Assumes nothing.
use native.Mathlib.Omega.{arith}
use mathlib.Core.Path.{◌≡◌, refl, sym, ◌∙◌}
use mathlib.Core.Logic.{inl, inr, ⊎_elim}
use borrow.Author.Rules.{rules}
use Rattle.address.specs.Address.{listed_in, NamesAddress}
use Rattle.entries.proofs.Lookups.{fits, rise, order-there, found-told, for-told, missing_at}
use Rattle.entries.proofs.after_first.Statement.{statement}
use Rattle.entries.proofs.after_first.Tie as tie

-- the key is the row of the address that the list's row names
named : (c : tie.After-key-1) → c.row-key.result ≡ listed_in c.args.row.now
named c = c.row-key.ensures.0 ∙ c.listed-address.ensures

names : (joined : tie.Joined-then-family-eq4) → NamesAddress joined.args.row.now
names joined = ⊎_elim (λ w. inl w.if-family-eq4.true) (λ w. inr w.if-family-eq6.true) joined.then-family-eq4.branch-raw

after-look-requires : tie.Need-after_look-requires
after-look-requires c κs =
    let joined = c.before.before.before.before in
    let from = joined.before.before.before.before in
    let a = from.args in
    let b = a.t.now in
    let r = listed_in a.row.now in
    let z = c.count-n.ensures in
    let is = c.row-key.ensures.1.0 in (
      fits b _ _ r from.requires.0 z (named c) is,
      rise b _ _ r from.requires.0 z (named c) is,
      omega (arith, z, from.requires.1),
      from.requires.3 (names joined) ∙ sym (order-there b _ _ r from.requires.0 z (named c) is a.first _ (omega (arith, z, from.requires.1)) refl),
      omega (arith, z, from.requires.0.sound.short),
    )

returns : tie.Need-returns-then-family-eq4
returns c =
    let k = c.before in
    let from = k.before.before.before.before.before.before.before.before in
    let a = from.args in
    let b = a.t.now in
    let r = listed_in a.row.now in
    let z = k.count-n.ensures in
    let is = k.row-key.ensures.1.0 in
    let looks = for-told b _ _ r from.requires.0 z (named k) is a.first _ c.after_look.ensures.1 in
    let joined = k.before.before.before.before in (
      λ _. found-told b _ _ r from.requires.0 z (named k) is _ c.after_look.ensures.0,
      (λ s. absurd (s (names joined)), (λ _. looks.0, (λ s. absurd (s (names joined)), looks.1))),
    )

returns-2 : tie.Need-returns
returns-2 c =
    let from = c.before.before.before.before.before in
    let a = from.args in
    let four = c.if-family-eq4.false in
    let six = c.if-family-eq6.false in
    (⊎_elim (λ f. absurd (four f)) (λ f. absurd (six f)), (λ _ i e. missing_at e, (⊎_elim (λ f. absurd (four f)) (λ f. absurd (six f)), (λ _. refl, omega arith))))

pub after_first_spec : {M : Type 1} → statement M
after_first_spec =
    tie.close
    (tie.spec
    (λ c. search rules)
    (λ c κs. search rules)
    (λ c κs. search rules)
    (λ c κs. search rules)
    (λ c. search rules)
    after-look-requires
    returns
    returns-2)
