-- `any_source` meets its contract: the words are two, and this is one of them. Assumes nothing.
use native.Mathlib.Omega.{arith}
use mathlib.Core.Path.{refl}
use Rattle.settings.specs.Settings.{settings_in}
use Rattle.settings.proofs.Laws.{length-settings, numbers-octets}
use Rattle.settings.proofs.any_source.Statement.{statement}
use Rattle.settings.proofs.any_source.Tie as tie

shared-slice-read-result : tie.Need-bounds-s-1
shared-slice-read-result c = let start = c.before in omega (arith, length-settings start.args.s.now start.requires)

cast-result : tie.Need-overflow_cast-result
unfolding settings_in
cast-result c = omega (arith, (numbers-octets (settings_in c.args.s.now) c.requires.sound).1)

returns : tie.Need-returns
unfolding settings_in
returns c = refl

pub any_source_spec : {M : Type 1} → statement M
any_source_spec =
    tie.close
    (tie.spec
    shared-slice-read-result
    cast-result
    returns)
