-- `address_at` meets its contract: an address is its family and its words. Assumes nothing.
use mathlib.Core.Path.{sym, ◌∙◌}
use borrow.Author.Rules.{rules}
use Rattle.lists.proofs.Lists.{every_in}
use Rattle.address.specs.Address.{address_row}
use Rattle.layout.specs.Table.{no_entry, AddressRight}
use Rattle.layout.specs.Words.{table_in}
use Rattle.log_payloads.proofs.Laws.{address-six, address-four}
use Rattle.log_payloads.proofs.address_at.Statement.{statement}
use Rattle.log_payloads.proofs.address_at.Tie as tie

returns : tie.Need-returns-then-family-eq6
unfolding address_row
returns c =
    let words = c.before in
    let start = words.before.before.before in
    let right = every_in AddressRight (table_in start.args.t.now).entries start.args.at no_entry start.requires.0.sound.addresses start.requires.1 in
    address-six _ _ right.0 words.words_at-w.ensures (sym words.family_at-family.ensures ∙ c.if-family-eq6.true)

returns-2 : tie.Need-returns
unfolding address_row
returns-2 c =
    let words = c.before in
    let start = words.before.before.before in
    let right = every_in AddressRight (table_in start.args.t.now).entries start.args.at no_entry start.requires.0.sound.addresses start.requires.1 in
    address-four _ _ right.0 words.words_at-w.ensures (λ e. c.if-family-eq6.false (words.family_at-family.ensures ∙ e))

pub address_at_spec : {M : Type 1} → statement M
address_at_spec =
    tie.close
    (tie.spec
    (λ c κs. search rules)
    (λ c κs. search rules)
    (λ c. search rules)
    (λ c. search rules)
    (λ c. search rules)
    (λ c. search rules)
    returns
    (λ c. search rules)
    (λ c. search rules)
    (λ c. search rules)
    (λ c. search rules)
    returns-2)
