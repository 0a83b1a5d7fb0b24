-- `read_at` meets its contract: what stands at the position decides, one law for each case. Assumes nothing.
use native.Mathlib.Omega.{arith}
use mathlib.Core.Path.{sym, ◌∙◌}
use borrow.Author.Rules.{rules}
use Rattle.address.specs.Address.{address_row}
use Rattle.frames.proofs.Laws.{WholeAt, frame-told}
use Rattle.dumps.proofs.Scan.{read-end, read-spoilt, read-cut, read_whole}
use Rattle.dumps.proofs.read_at.Statement.{statement}
use Rattle.dumps.proofs.read_at.Tie as tie

-- a whole record at the position
whole_here : (c : tie.In-Whole) → WholeAt c.args.s.now c.args.at c.in-Whole.kind c.in-Whole.start c.in-Whole.len
whole_here c =
    let a = c.args in
    frame-told a.s.now a.at (sym c.frame_at-frame.ensures ∙ c.in-Whole.is)

add-after : tie.Need-overflow_add-after
add-after c = omega (arith, (whole_here c).fits)

part-read-record-end : tie.Need-slice_bounds-read_record-end
part-read-record-end c = omega (arith, (whole_here c).fits)

returns : tie.Need-returns-in-Nothing
returns c =
    let a = c.args in
    read-end (address_row a.address) a.s.now a.at (frame-told a.s.now a.at (sym c.frame_at-frame.ensures ∙ c.in-Nothing.is))

returns-2 : tie.Need-returns-in-Bad
returns-2 c =
    let a = c.args in
    read-spoilt (address_row a.address) a.s.now a.at (frame-told a.s.now a.at (sym c.frame_at-frame.ensures ∙ c.in-Bad.is))

returns-3 : tie.Need-returns-in-Cut
returns-3 c =
    let a = c.args in
    read-cut (address_row a.address) a.s.now a.at (frame-told a.s.now a.at (sym c.frame_at-frame.ensures ∙ c.in-Cut.is))

returns-4 : tie.Need-returns-in-Whole
returns-4 c =
    let here = c in
    let a = here.args in
    c.read_record.ensures ∙ read_whole (address_row a.address) a.s.now a.at _ _ _ (whole_here here.before.before)

pub read_at_spec : {M : Type 1} → statement M
read_at_spec =
    tie.close
    (tie.spec
    (λ c κs. search rules)
    (λ c. search rules)
    (λ c. search rules)
    (λ c. search rules)
    (λ c. search rules)
    add-after
    (λ c. search rules)
    (λ c. search rules)
    part-read-record-end
    (λ c κs. search rules)
    returns
    returns-2
    returns-3
    returns-4)
