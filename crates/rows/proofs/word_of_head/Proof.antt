-- `word_of_head` meets its contract: whole rows are passed, and the place lies less than 2^left rows behind them, and not before. Assumes nothing.
use Prim.Native.Nat.{ℕ, suc, ◌+◌, ◌-◌, ◌*◌, ◌/◌, ◌%◌, ◌^◌, ◌≤◌, ◌<◌}
use native.Mathlib.Nat.{one-mul, two-pow-succ, mul-le-mul_right, zero-mod, zero-div}
use native.Mathlib.Omega.{arith}
use mathlib.Core.Path.{◌≡◌, refl, ap, ◌∙◌}
use lib.Dec.{lit<}
use lib.Pow.{shl_exact, pow_mono, pow_pos}
use borrow.Author.Rules.{rules}
use Rattle.keyed.specs.Keyed.{rank}
use Rattle.keyed.proofs.Keyed.{rank-le}
use Rattle.rows.specs.Rows.{rows_in, row_key, head_key}
use Rattle.rows.proofs.Rows.{rows-length}
use Rattle.rows.proofs.Heads.{split-words, more_rows}
use Rattle.rows.proofs.word_of_head.Statement.{statement}
use Rattle.rows.proofs.word_of_head.Tie as tie

abbrev invariant-loop : tie.invariant-loop-left
invariant-loop s n k bits x y head end lo₀ left₀ lo left =
    let place = rank row_key (head_key k (x * 4294967296 + y)) (rows_in k n s) in
    (left ≤ bits) × (lo % k ≡ 0) × (lo / k ≤ place) × (place < lo / k + 2 ^ left)

abbrev decreases-loop : tie.decreases-loop-left
decreases-loop s n k bits x y head end lo₀ left₀ lo left = left

-- the place is among n
module _ (start : tie.Start invariant-loop decreases-loop) where
  among : rank row_key (head_key start.args.k (start.args.x * 4294967296 + start.args.y)) (rows_in start.args.k start.args.n start.args.s.now) ≤ start.args.n
  among = omega (arith, rank-le row_key (head_key start.args.k (start.args.x * 4294967296 + start.args.y)) (rows_in start.args.k start.args.n start.args.s.now), rows-length start.args.k start.args.n start.args.s.now)

  -- and n rows take fewer than 2^48 words
  short : start.args.n * start.args.k < 2 ^ 48
  short =
      let b : 2 ^ start.args.bits ≤ 2 ^ 32 = pow_mono start.requires.5 in
      let n : start.args.n ≤ 2 ^ 32 = omega (arith, b, start.requires.4) in
      omega (arith, mul-le-mul_right start.args.k n, start.requires.1)

loop-holds : tie.Need-loop-left-init invariant-loop decreases-loop
loop-holds c =
    let start = c.before in
    (omega arith, zero-mod _, omega (arith, zero-div start.args.k), omega (arith, zero-div start.args.k, among start, start.requires.4))

-- the step at a turn, and what it would pass
module _ (turn : tie.At-loop-left invariant-loop decreases-loop) (more : turn.loop-left.left ≡ 0 → ⊥) where
  abbrev start : tie.Start invariant-loop decreases-loop
  start = turn.before.before

  abbrev k : ℕ
  k = start.args.k

  abbrev exponent : ℕ
  exponent = turn.loop-left.left - 1

  abbrev distance : ℕ
  distance = 1 * 2 ^ exponent % 2 ^ 64

  step : distance ≡ 2 ^ exponent
  step = shl_exact 1 exponent 64 (lit< tt) (omega (arith, turn.loop-left.invariant.0, start.requires.5)) ∙ one-mul (2 ^ exponent)

  twice : 2 ^ turn.loop-left.left ≡ 2 ^ exponent + 2 ^ exponent
  twice = let e : turn.loop-left.left ≡ suc exponent = omega (arith, more) in ap (λ (n : ℕ). 2 ^ n) e ∙ two-pow-succ exponent

  next : ((turn.loop-left.lo + distance * k) % k ≡ 0) × ((turn.loop-left.lo + distance * k) / k ≡ turn.loop-left.lo / k + distance)
  next = more_rows k turn.loop-left.lo distance start.requires.0 turn.loop-left.invariant.1

  some : 0 < (turn.loop-left.lo + distance * k) / k
  some = omega (arith, next.1, step, pow_pos exponent)

  -- all of it is far from the end of a word
  product-fits : distance * k < 2 ^ 48
  product-fits =
      let e : exponent ≤ 32 = omega (arith, turn.loop-left.invariant.0, start.requires.5) in
      let h : 2 ^ exponent ≤ 2 ^ 32 = pow_mono e in
      let d : distance ≤ 2 ^ 32 = omega (arith, step, h) in
      omega (arith, mul-le-mul_right k d, start.requires.1)

  sum_fits : turn.loop-left.lo + distance * k < 2 ^ 64
  sum_fits =
      let l : turn.loop-left.lo / k ≤ start.args.n = omega (arith, turn.loop-left.invariant.2, among start) in
      omega (arith, product-fits, split-words k turn.loop-left.lo turn.loop-left.invariant.1, mul-le-mul_right k l, short start)

loop-again : tie.Need-loop-left-preserved-then-reaches invariant-loop decreases-loop
loop-again c =
    let asked = c.before in
    let turn = asked.before.before in
    let v = turn.loop-left.invariant in
    let m = asked.loop-left-test.true in
    (omega (arith, v.0), (next turn m).0, asked.reaches.ensures.0 c.if-reaches.true, omega (arith, (next turn m).1, step turn m, twice turn m, v.3))

loop-again-2 : tie.Need-loop-left-preserved invariant-loop decreases-loop
loop-again-2 c =
    let asked = c.before in
    let turn = asked.before.before in
    let v = turn.loop-left.invariant in
    let m = asked.loop-left-test.true in
    (omega (arith, v.0), v.1, v.2, omega (arith, (next turn m).1, step turn m, asked.reaches.ensures.1 c.if-reaches.false))

returns : tie.Need-returns invariant-loop decreases-loop
returns c =
    let turn = c.before in
    let v = turn.loop-left.invariant in
    let e : 2 ^ turn.loop-left.left ≡ 1 = ap (λ (n : ℕ). 2 ^ n) c.loop-left-test.false in
    let k = turn.args.k in
    let there : turn.loop-left.lo / k ≡ rank row_key (head_key k (turn.args.x * 4294967296 + turn.args.y)) (rows_in k turn.args.n turn.args.s.now) = omega (arith, v.2, v.3, e) in
    split-words k turn.loop-left.lo v.1 ∙ ap (λ (p : ℕ). p * k) there

reaches-requires : tie.Need-reaches-requires invariant-loop decreases-loop
reaches-requires c κs =
    let turn = c.before in
    let m = c.loop-left-test.true in
    let s = start turn m in
    (s.requires.0, refl, s.requires.2, s.requires.3, (next turn m).0, some turn m)

pub word_of_head_spec : {M : Type 1} → statement M
word_of_head_spec =
    tie.close
    (tie.spec
    invariant-loop
    decreases-loop
    (λ c. search rules)
    (λ c. search rules)
    (λ c. record { fits = omega (arith, short c.before) })
    loop-holds
    (λ c. search rules)
    (λ c. search rules)
    (λ c. record { fits = omega (arith, product-fits c.before c.loop-left-test.true) })
    (λ c. record { fits = sum_fits c.before c.loop-left-test.true })
    reaches-requires
    (λ c. omega arith)
    loop-again
    (λ c. omega arith)
    loop-again-2
    returns)
