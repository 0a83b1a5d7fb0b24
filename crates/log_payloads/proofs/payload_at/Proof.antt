-- `payload_at` meets its contract: the route that was written, and the community behind it. Assumes nothing.
use native.Mathlib.Omega.{arith}
use Prim.Native.Nat.{◌+◌, ◌≤◌}
use mathlib.Core.Path.{◌≡◌, refl, ap, ◌∙◌}
use lib.ListN.{get_or, replicate}
use borrow.Author.Rules.{rules}
use Rattle.lists.proofs.Lists.{every_in}
use Rattle.layout.specs.Table.{Entry, no_entry, AddressRight}
use Rattle.layout.specs.Words.{table_in}
use Rattle.route_fields.specs.Fields.{route_written}
use Rattle.log_payloads.proofs.Laws.{total-small, payload-length, payload-taken}
use Rattle.log_payloads.proofs.payload_at.Statement.{statement}
use Rattle.log_payloads.proofs.payload_at.Tie as tie

-- what is known once the route's length is
module _ (told : tie.After-total-total) where
  abbrev wrote : tie.After-write
  wrote = told.before.before

  abbrev start : tie.Start
  start = wrote.before.before.before.before.before.before.before

  abbrev entry : Entry
  entry = get_or (table_in start.args.t.now).entries start.args.at no_entry

  right : AddressRight entry
  right = every_in AddressRight (table_in start.args.t.now).entries start.args.at no_entry start.requires.0.sound.addresses start.requires.1

  written : wrote.write.new.buf ≡ route_written (replicate 45 0) (replicate 8 0) start.args.esi entry.address
  written = wrote.write.ensures.1.0 ∙ ap (route_written (replicate 45 0) (replicate 8 0) start.args.esi) wrote.address_at-address.ensures

  small : told.total-total.result + 8 ≤ 45
  small = total-small start.args.esi entry start.requires.3 right (replicate 45 0) wrote.write.new.buf refl written told.total-total.result told.total-total.ensures

returns : tie.Need-returns
returns c =
    let told = c.before.before.before.before in
    let s = start told in
    let i = s.args.esi in
    let e = entry told in
    let b = (wrote told).write.new.buf in
    let n = told.total-total.result in (
      payload-taken i e s.requires.3 (right told) (replicate 45 0) b refl (written told) n told.total-total.ensures _ _ (wrote told).before.before.before.before.community_at-community.ensures c.store.ensures,
      payload-length i e s.requires.3 (right told) (replicate 45 0) b refl (written told) n told.total-total.ensures,
      small told,
    )

pub payload_at_spec : {M : Type 1} → statement M
payload_at_spec =
    tie.close
    (tie.spec
    (λ c κs. search rules)
    (λ c κs. search rules)
    (λ c. search rules)
    (λ c. search rules)
    (λ c. search rules)
    (λ c κs. search rules)
    (λ c. search rules)
    (λ c κs. search rules)
    (λ c. search rules)
    (λ c. search rules)
    (λ c κs. search rules)
    (λ c. omega (arith, small c.before.before.before.before))
    returns)
