-- `bits` meets its contract: one case for each family. Assumes nothing.
use mathlib.Core.Path.{ap, sym}
use borrow.Author.Rules.{rules}
use Rattle.address.specs.Address.{row_under, address_row, family_of}
use Rattle.address.specs.declared.Family.{Family}
use Rattle.route_fields.specs.Fields.{bits_of}
use Rattle.route_fields.proofs.bits.Statement.{statement}
use Rattle.route_fields.proofs.bits.Tie as tie

returns : tie.Need-returns-in-V4
unfolding bits_of address_row family_of
returns c = let a = c.args.a in sym (ap (λ (f : Family). bits_of (row_under f a.w0 a.w1 a.w2 a.w3)) c.in-V4.is)

returns-2 : tie.Need-returns-in-V6
unfolding bits_of address_row family_of
returns-2 c = let a = c.args.a in sym (ap (λ (f : Family). bits_of (row_under f a.w0 a.w1 a.w2 a.w3)) c.in-V6.is)

pub bits_spec : {M : Type 1} → statement M
bits_spec =
    tie.close
    (tie.spec
    (λ c. search rules)
    (λ c. search rules)
    returns
    returns-2)
