-- `withdraw` meets its contract: `find` says which case of `withdrawn` holds. Assumes nothing.
use Rattle.std.proofs.Common.{sym, ◌∙◌}
use Rattle.address.specs.Address.{address_row}
use Rattle.table.proofs.Told.{withdrawn-at}
use Rattle.table.proofs.withdraw.Goals as goal

pub returns : goal.returns
returns c =
    let told = withdrawn-at c.args.t.now c.requires (address_row c.args.address) _ (sym c.is_zero.ensures ∙ c.if-is_zero.false) (sym c.find-found.ensures ∙ c.in-Ok.is) _ c.shrink.ensures in
    record { answer = told.0; kept = told.1 }
