-- `all` promises to be true exactly where every octet is x.
use Rattle.std.proofs.Common.{rules, ◌≡◌, slice_index}
use Rattle.std.specs.Prelude.{IsTrue, EachIndex, ◌↔◌}
use Rattle.octets.proofs.Laws.{all_are_when}
use Rattle.octets.proofs.all_are.Goals as goal

pub returns : goal.returns
returns c =
    let e : IsTrue c.all.result ↔ EachIndex c.args.s.now (λ k. slice_index c.args.s.now k ≡ c.args.x) = search rules in
    all_are_when c.all.result c.args.x c.args.s.now e
