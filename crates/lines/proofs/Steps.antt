-- The law for the step of the code: one octet stored. Assumes nothing.
use Prim.Native.Nat.{ℕ, suc, ◌+◌, ◌<◌}
use native.Mathlib.Numerals.{add-one}
use native.Mathlib.Omega.{arith}
use mathlib.Core.Path.{refl, ap, ◌∙◌, sym}
use mathlib.Core.List.{List, [], ◌∷◌, ◌++◌}
use lib.ListN.{length, set, take, drop}
use lib.Seq.{set_split, append_snoc}
use Rattle.octets.proofs.Laws.{stored-fits}
use Rattle.lines.specs.Lines.{Put}
use Rattle.lines.proofs.Laws.{put-made}

pub put_one : (d : List ℕ) (at x : ℕ) → at < length d → Put d at (x ∷ []) (at + 1) (set d at x)
put_one d at x h =
    put-made (omega arith) refl
    (set_split d at x h
    ∙ sym (append_snoc (take at d) x (drop (suc at) d))
    ∙ ap (λ (i : ℕ). take at d ++ (x ∷ []) ++ drop i d) (sym (add-one at))
    ∙ sym (stored-fits d at (x ∷ []) (omega arith)))
