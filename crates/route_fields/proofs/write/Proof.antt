-- `write` meets its contract: the five stores, one after the other, are the octets of the route. Assumes nothing.
use borrow.Author.Rules.{rules}
use native.Mathlib.Omega.{arith}
use Prim.Native.Nat.{ℕ, ◌-◌, ◌≤◌}
use mathlib.Core.Path.{◌≡◌, ap, ap₂, sym, ◌∙◌}
use mathlib.Core.List.{List, [], ◌∷◌}
use lib.ListN.{length, take}
use Rattle.rows.proofs.Compared.{Words}
use Rattle.octets.specs.Octets.{stored}
use Rattle.address.specs.Address.{address_row}
use Rattle.address.proofs.Laws.{row-address, row_words}
use Rattle.route.specs.Route.{total_of}
use Rattle.route.proofs.Laws.{total-least, total-most}
use Rattle.route_fields.specs.Fields.{bits_of}
use Rattle.route_fields.proofs.Laws.{part_of, length-sixteen, wrote-no-distinguisher, wrote-reserved, wrote-zero, wrote-short, wrote}
use Rattle.route_fields.proofs.write.Statement.{statement}
use Rattle.route_fields.proofs.write.Tie as tie

returns : tie.Need-returns-then-distinguisher-ne8
returns c = wrote-no-distinguisher _ _ _ _ c.if-distinguisher-ne8.true

returns-2 : tie.Need-returns-then-is_reserved
returns-2 c = wrote-reserved _ _ _ _ (omega arith) (sym c.is_reserved.ensures ∙ c.if-is_reserved.true)

returns-3 : tie.Need-returns-then-is_zero
returns-3 c =
    let reserved = c.before.before in
    wrote-zero _ _ _ _ (omega arith) (sym reserved.is_reserved.ensures ∙ reserved.if-is_reserved.false) (sym c.is_zero.ensures ∙ c.if-is_zero.true)

-- what is known once the length that is wanted is
module _ (wanted : tie.After-total-wanted) where
  abbrev sized : tie.After-bits-length
  sized = wanted.before

  abbrev zero : tie.Else-is_zero
  zero = sized.before

  abbrev reserved : tie.Else-is_reserved
  reserved = zero.before.before

  abbrev start : tie.Start
  start = reserved.before.before.before.before.before.before

  abbrev row : List ℕ
  row = address_row start.args.address

  bits_are : sized.bits-length.result ≡ bits_of row
  bits_are = sized.bits-length.ensures

  total-is : wanted.total-wanted.result ≡ total_of (bits_of row)
  total-is = wanted.total-wanted.ensures ∙ ap total_of bits_are

  least : 25 ≤ wanted.total-wanted.result
  least = rw total-is (total-least (bits_of row))

  most : wanted.total-wanted.result ≤ 37
  most = rw total-is (total-most (bits_of row))

  words : Words row
  words = row_words start.args.address (omega arith) (omega arith) (omega arith) (omega arith)

returns-4 : tie.Need-returns-then-buf-wanted
returns-4 c =
    let w = c.before in
    wrote-short _ _ _ _ (omega arith) (sym c.is_reserved.ensures ∙ c.if-is_reserved.false) (sym c.is_zero.ensures ∙ c.if-is_zero.false)
    w.total-wanted.result (total-is w) c.if-buf-wanted.true

sub-t10 : tie.Need-overflow_sub-start
sub-t10 c = omega (arith, least c.before)

cast-t14 : tie.Need-overflow_cast-start
cast-t14 c = omega (arith, most c.before)

sub-store : tie.Need-overflow_sub-wanted
sub-store c = omega (arith, least c.before.before.before.before.before.before.before.before.before.before.before.before.before.before.before.before.before.before.before.before.before)

part-store-end : tie.Need-slice_bounds-store-end-3
part-store-end c = let w = c.before.before.before.before.before.before.before.before.before.before.before.before.before.before.before.before.before.before.before.before.before in
    let octets = c in
    omega (arith, least w, most w, ap length c.octets-a.ensures ∙ length-sixteen _ _ _ _)

returns-5 : tie.Need-returns
returns-5 c =
    let w = c.before.before.before.before.before.before.before.before.before.before.before.before.before.before.before.before.before.before.before.before.before.before.before.before.before in
    let a = (start w).args in
    let address = a.address in
    let same : w.total-wanted.result - 21 - 0 ≡ total_of (bits_of (row w)) - 21 = omega (arith, total-is w) in
    wrote a.buf.now a.distinguisher.now a.esi.now (row w)
    c.if-distinguisher-ne8.false (sym c.is_reserved.ensures ∙ c.if-is_reserved.false) (sym c.is_zero.ensures ∙ c.if-is_zero.false)
    (row-address address) (words w) (rw (total-is w) at c.if-buf-wanted.false)
    (ap₂ (λ (n : ℕ) (s : List ℕ). take n s) same c.octets-a.ensures ∙ part_of address)
    (c.store.ensures ∙ ap (λ (n : ℕ). stored a.buf.now 0 (4 ∷ (n - 2) ∷ [])) (total-is w))
    c.store-2.ensures c.store-3.ensures
    (c.store-4.ensures ∙ ap (λ (n : ℕ). stored c.store-3.new.dst 20 (n ∷ [])) (bits_are w)) c.store-5.ensures

pub write_spec : {M : Type 1} → statement M
write_spec =
    tie.close
    (tie.spec
    returns
    (λ c κs. search rules)
    returns-2
    (λ c κs. search rules)
    returns-3
    (λ c κs. search rules)
    (λ c κs. search rules)
    returns-4
    sub-t10
    cast-t14
    (λ c κs. search rules)
    (λ c. search rules)
    (λ c κs. search rules)
    (λ c κs. search rules)
    (λ c κs. search rules)
    (λ c. search rules)
    (λ c κs. search rules)
    sub-store
    (λ c. search rules)
    (λ c. search rules)
    part-store-end
    (λ c κs. search rules)
    (λ c. search rules)
    returns-5)
