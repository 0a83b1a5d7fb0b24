-- The rows of the addresses in a query are a ready list that names just these. Assumes nothing.
use Prim.Native.Nat.{ℕ, ◌/◌}
use native.Mathlib.Omega.{arith}
use mathlib.Core.Path.{◌≡◌, refl, ap, ap₂, ◌∙◌, sym}
use mathlib.Core.Bool.{Bool, true, false}
use mathlib.Core.List.{List, [], ◌∷◌, map, append-nil}
use lib.ListN.{length}
use Rattle.lists.specs.Lists.{Every}
use Rattle.rows.specs.Rows.{rows_in, flat}
use Rattle.rows.proofs.Columns.{Wide, length-flat, rows-flat}
use Rattle.address.specs.Address.{listed_in}
use Rattle.ready.specs.Ready.{ready_in}
use Rattle.payloads.specs.Payloads.{size_of, address_of, addresses_in}

width : (v : Bool) (p : List ℕ) → length (address_of v p) ≡ 5
unfolding address_of
width true p = refl
width false p = refl

listed : (v : Bool) (p : List ℕ) → listed_in (address_of v p) ≡ address_of v p
unfolding listed_in address_of
listed true p = refl
listed false p = refl

wide : (v : Bool) (ps : List (List ℕ)) → Wide 5 (map (address_of v) ps)
unfolding Every
wide v [] = tt
wide v (p ∷ ps) = (width v p, wide v ps)

all_listed : (v : Bool) (ps : List (List ℕ)) → map listed_in (map (address_of v) ps) ≡ map (address_of v) ps
all_listed v [] = refl
all_listed v (p ∷ ps) = ap₂ (λ (x : List ℕ) (l : List (List ℕ)). x ∷ l) (listed v p) (all_listed v ps)

pub ready-flat : (v : Bool) (s : List ℕ) → ready_in (flat (addresses_in v s)) ≡ addresses_in v s
unfolding ready_in addresses_in
ready-flat v s =
    let ps = rows_in (size_of v) (length s / size_of v) s in
    let a = map (address_of v) ps in
    let n : length (flat a) / 5 ≡ length a = omega (arith, length-flat 5 a (wide v ps)) in
    ap (map listed_in) (ap₂ (λ (m : ℕ) (w : List ℕ). rows_in 5 m w) n (sym (append-nil (flat a))) ∙ rows-flat 5 a [] (wide v ps)) ∙ all_listed v ps
