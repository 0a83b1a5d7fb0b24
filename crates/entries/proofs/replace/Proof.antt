-- `replace` meets its contract. Assumes nothing.
use native.Mathlib.Omega.{arith}
use borrow.Author.Rules.{rules}
use Rattle.layout.specs.Words.{table_in}
use Rattle.layout.proofs.Words.{length-valid, wide-addresses}
use Rattle.entries.proofs.Stores.{replaced-words}
use Rattle.entries.proofs.replace.Statement.{statement}
use Rattle.entries.proofs.replace.Tie as tie

slice-write-t : tie.Need-bounds-t-at
slice-write-t c = let start = c in omega (arith, length-valid start.args.t.now start.requires.0, start.requires.0.sound.short)

returns : tie.Need-returns
returns c =
    let b = c.args.t.now in
    replaced-words b (table_in b).esi (table_in b).entries c.requires.0.sound.short (wide-addresses (table_in b).entries c.requires.0.sound.addresses) c.requires.0.whole c.args.at c.args.word c.requires.1

pub replace_spec : {M : Type 1} → statement M
replace_spec =
    tie.close
    (tie.spec
    (λ c. search rules)
    (λ c. search rules)
    slice-write-t
    (λ c. search rules)
    returns)
