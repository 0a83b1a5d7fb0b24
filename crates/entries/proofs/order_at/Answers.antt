-- `order_at` where the first parts differ: they decide. Both parts of a row are of the lengths that are compared. The check proves the rest. Assumes nothing.
use Rattle.std.proofs.Common.{refl, sym, ◌∙◌}
use Rattle.std.specs.declared.cmp.Ordering.TheVariants.{Less, Greater}
use Rattle.entries.proofs.Lookups.{near, head-fits, tail-fits, head-decides}
use Rattle.entries.proofs.order_at.Goals as goal

pub compare-head-requires : goal.compare-head-requires
compare-head-requires c = let r = c.requires in head-fits (near _ _ _ r.0 r.1 r.2 (λ j. (c.type_inv.t j).fits) (λ j. (c.type_inv.row j).fits))

pub compare-requires : goal.compare-requires
compare-requires c = let r = c.requires in tail-fits (near _ _ _ r.0 r.1 r.2 (λ j. (c.type_inv.t j).fits) (λ j. (c.type_inv.row j).fits))

pub returns-in-Less-clause-order : goal.returns-in-Less-clause-order
returns-in-Less-clause-order c =
    let r = c.requires in
    head-decides (near _ _ _ r.0 r.1 r.2 (λ j. (c.type_inv.t j).fits) (λ j. (c.type_inv.row j).fits)) Less (sym c.in-Less.is ∙ c.compare-head.ensures) (λ x. refl)

pub returns-in-Greater-clause-order : goal.returns-in-Greater-clause-order
returns-in-Greater-clause-order c =
    let r = c.requires in
    head-decides (near _ _ _ r.0 r.1 r.2 (λ j. (c.type_inv.t j).fits) (λ j. (c.type_inv.row j).fits)) Greater (sym c.in-Greater.is ∙ c.compare-head.ensures) (λ x. refl)
