-- `attributes` meets its contract: the bits of the fields do not overlap. Assumes nothing.
use native.Mathlib.Omega.{arith}
use Rattle.lists.proofs.Bools.{bit-of, bit-less}
use Rattle.layout.specs.Words.{attributes_of, kind_of, standing_of}
use borrow.Author.Rules.{rules}
use Rattle.layout.proofs.attributes.Statement.{statement}
use Rattle.layout.proofs.attributes.Tie as tie

add-kind : tie.Need-overflow_add-kind
add-kind c = let e = c.args.e in omega (arith, bit-of e.ac_df, bit-less e.ac_df)

add-standing : tie.Need-overflow_add-standing
add-standing c = let e = c.args.e in omega (arith, bit-of e.dp, bit-less e.dp)

mul-result : tie.Need-overflow_mul-result
mul-result c = let e = c.args.e in omega (arith, bit-of e.ac_df, bit-less e.ac_df)

add-result : tie.Need-overflow_add-result
add-result c = let e = c.args.e in omega (arith, bit-of e.ac_df, bit-less e.ac_df, bit-of e.dp, bit-less e.dp)

returns : tie.Need-returns
unfolding attributes_of kind_of standing_of
returns c = let e = c.args.e in (rw (bit-of e.ac_df, bit-of e.dp), omega arith)

pub attributes_spec : {M : Type 1} → statement M
attributes_spec =
    tie.close
    (tie.spec
    (λ c. search rules)
    (λ c. search rules)
    (λ c. search rules)
    add-kind
    (λ c. search rules)
    (λ c. search rules)
    (λ c. search rules)
    add-standing
    mul-result
    add-result
    returns)
