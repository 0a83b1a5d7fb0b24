-- `query` meets its contract: the tag and the ready addresses are read, and the line of the election's answer is put. Assumes nothing.
use Prim.Native.Nat.{ℕ, ◌*◌, ◌-◌, ◌/◌, ◌≤◌}
use native.Mathlib.Omega.{arith}
use mathlib.Core.Path.{◌≡◌, sym, ◌∙◌, ap}
use mathlib.Core.Bool.{Bool}
use mathlib.Core.List.{List}
use lib.ListN.{length, take, drop, length-drop}
use lib.Seq.{length-take-le}
use Rattle.octets.specs.Octets.{number_of}
use Rattle.ready.specs.Ready.{ready_in}
use Rattle.answers.specs.Answers.{answer_of}
use Rattle.payloads.specs.Payloads.{size_of, addresses_in}
use Rattle.payloads.proofs.Laws.{size-pos, addresses-few}
use Rattle.queries.proofs.Ready.{ready-flat}
use Rattle.turns.proofs.Laws.{four-front, take-of-all, stepped-query}
use borrow.Author.Rules.{rules}
use Rattle.queries.proofs.query.Statement.{statement}
use Rattle.queries.proofs.query.Tie as tie

-- what is known once the size of an address is
module _ (z : tie.After-size) where
  abbrev start : tie.Start
  start = z.before.before.before.before.before.before.before.before.before.before.before.before.before

  abbrev v : Bool
  v = start.args.v6

  abbrev p : List ℕ
  p = start.args.payload.now

  abbrev rest : List ℕ
  rest = take (length p - 4) (drop 4 p)

  abbrev n : ℕ
  n = length rest / z.size.result

  abbrev words : List ℕ
  words = z.put_rows.new.ready

  rest-is : rest ≡ drop 4 p
  rest-is = take-of-all (length p - 4) (drop 4 p) (length-drop 4 p)

  few : n ≤ 63
  few =
      let e : n ≡ length rest / size_of v = ap (λ (x : ℕ). length rest / x) z.size.ensures in
      omega (arith, e, addresses-few v rest (omega (arith, ap length rest-is, length-drop 4 p, start.requires.2)))

  room : length words ≡ 320
  room = z.put_rows.auto.ready

  ready-is : ready_in (take (n * 5) words) ≡ addresses_in v (drop 4 p)
  ready-is =
      ap ready_in (ap (λ (x : ℕ). take (length rest / x * 5) words) z.size.ensures ∙ z.put_rows.ensures)
      ∙ ready-flat v rest
      ∙ ap (addresses_in v) rest-is

div-n : tie.Need-nonzero_div-n
div-n c = omega (arith, (size-pos (v c)).0, c.size.ensures)

mul-n : tie.Need-overflow_mul-n
mul-n c = record { fits = omega (arith, few c) }

array-share-prefix-ready : tie.Need-slice_bounds-ready-end
array-share-prefix-ready c = let z = c.before.before in omega (arith, few z, room z)

slice-aggregate-elect-2 : tie.Need-slice_bounds-elect-end-2
slice-aggregate-elect-2 c = let z = c.before.before.before in sym (length-take-le (n z * 5) (words z) (omega (arith, few z, room z)))

returns : tie.Need-returns
returns c =
    let told = c.before.before in
    let el = told.before.before in
    let none = el.before.before.before in
    let z = none.before in
    let u = z.before.before.before.before.before in
    stepped-query (start z).args.t.now (v z) (p z) (answer_of el.elect-answer.result) u.u32_of-tag.result _
    (u.u32_of-tag.ensures ∙ ap number_of (four-front (p z) (start z).requires.1))
    (ready-is z)
    none.fresh-none.ensures.0
    el.elect-answer.ensures.0
    (start z).requires.3
    told.put_answer-end.ensures

pub query_spec : {M : Type 1} → statement M
query_spec =
    tie.close
    (tie.spec
    (λ c. search rules)
    (λ c. search rules)
    (λ c. search rules)
    (λ c. search rules)
    (λ c κs. search rules)
    (λ c. search rules)
    (λ c. search rules)
    (λ c. search rules)
    (λ c. search rules)
    (λ c κs. search rules)
    (λ c κs. search rules)
    div-n
    mul-n
    (λ c κs. search rules)
    (λ c. search rules)
    array-share-prefix-ready
    slice-aggregate-elect-2
    (λ c κs. search rules)
    (λ c κs. search rules)
    (λ c. search rules)
    returns)
