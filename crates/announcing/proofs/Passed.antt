-- A refusal passed on as one that speaks of no octet: its number, and offset 0. Assumes nothing.
use mathlib.Core.Path.{◌≡◌}
use Rattle.std.specs.Prelude.{Result}
use Rattle.std.specs.Result.{IsErrAnd}
use Rattle.std.proofs.lemmas.Result.{err_from_is_err_and}
use Rattle.refusals.specs.Numbers.{refusal_number, number_at, offset_at}
use Rattle.refusals.specs.declared.Refusal.{Refusal}
use Rattle.refusals.specs.declared.RefusalAt.{RefusalAt}

pub passed_on : (q : Result Unit RefusalAt) (x : Refusal) → IsErrAnd q (λ e. (e.refusal ≡ x) × (e.offset ≡ 0)) → (number_at q ≡ refusal_number x) × (offset_at q ≡ 0)
passed_on q x h =
    let p = err_from_is_err_and q h in
    (rw (p.1, p.2.0), rw (p.1, p.2.1))
