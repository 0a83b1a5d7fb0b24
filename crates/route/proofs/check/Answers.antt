-- `check`: each return is the law of the check that refuses, or what the checks of the family answer. The check proves the rest.
use Rattle.std.proofs.Common.{arith, get_or, sym}
use Rattle.route.proofs.Laws.{short, not-type, not-bits, bits-32, bits-128, bits-wrong, total-32, total-128, answers}
use Rattle.route.proofs.check.Goals as goal

pub returns-then-s-lt21 : goal.returns-then-s-lt21
returns-then-s-lt21 c = let a = short _ c.if-s-lt21.true in record { value = a.0; numbered = a.1.0; placed = a.1.1.0; valued = a.1.1.1.0; fault = a.1.1.1.1 }

pub returns-then-s-ne4 : goal.returns-then-s-ne4
returns-then-s-ne4 c = let a = not-type _ (omega arith) c.if-s-ne4.true in record { value = a.0; numbered = a.1.0; placed = a.1.1.0; valued = a.1.1.1.0; fault = a.1.1.1.1 }

pub returns-in-32 : goal.returns-in-32
returns-in-32 c = let a = answers _ _ c.check_framed.ensures in record { value = a.0; numbered = a.1.0; placed = a.1.1.0; valued = a.1.1.1.0; fault = a.1.1.1.1 }

pub returns-in-128 : goal.returns-in-128
returns-in-128 c = let a = answers _ _ c.check_framed-in-128.ensures in record { value = a.0; numbered = a.1.0; placed = a.1.1.0; valued = a.1.1.1.0; fault = a.1.1.1.1 }

pub returns-in_default : goal.returns-in_default
returns-in_default c = let a = not-bits _ c.if-s-lt21.false c.if-s-ne4.false (bits-wrong (get_or c.args.s.now 20 0) (omega arith) (omega arith)) in record { value = a.0; numbered = a.1.0; placed = a.1.1.0; valued = a.1.1.1.0; fault = a.1.1.1.1 }

pub check_framed-requires : goal.check_framed-requires
check_framed-requires c = (c.if-s-lt21.false, c.if-s-ne4.false, bits-32 _ c.in-32.is, sym (total-32 _ c.in-32.is))

pub check_framed-requires-in-128 : goal.check_framed-requires-in-128
check_framed-requires-in-128 c = (c.if-s-lt21.false, c.if-s-ne4.false, bits-128 _ c.in-128.is, sym (total-128 _ c.in-128.is))
