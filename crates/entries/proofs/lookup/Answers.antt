-- `lookup` where the entry at the first place is the one: that look is all. The check proves the rest. Assumes nothing.
use Rattle.std.proofs.Common.{sym, ◌∙◌, ◌<◌, length, arith}
use Rattle.rows.proofs.Compared.{is_same}
use Rattle.address.specs.Address.{address_key, listed_in}
use Rattle.layout.specs.Words.{table_in}
use Rattle.entries.proofs.Lookups.{first-hit}
use Rattle.entries.proofs.lookup.Goals as goal

pub returns-in-Equal-clause-found : goal.returns-in-Equal-clause-found
returns-in-Equal-clause-found c s =
    let told = c.order_at-order.ensures in
    let equal = c.in-Equal.is in
    let inside : c.args.first < length (table_in c.args.t.now).entries = omega arith in
    (first-hit (table_in c.args.t.now).entries (address_key (listed_in c.args.row.now)) c.args.first c.requires.0.sound.rising inside (is_same _ _ (sym (told.order s) ∙ equal))).0

pub returns-in-Equal-clause-looks : goal.returns-in-Equal-clause-looks
returns-in-Equal-clause-looks c s =
    let told = c.order_at-order.ensures in
    let equal = c.in-Equal.is in
    let inside : c.args.first < length (table_in c.args.t.now).entries = omega arith in
    (first-hit (table_in c.args.t.now).entries (address_key (listed_in c.args.row.now)) c.args.first c.requires.0.sound.rising inside (is_same _ _ (sym (told.order (told.names equal)) ∙ equal))).1
