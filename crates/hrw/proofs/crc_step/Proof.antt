-- `crc_step` meets its contract: the high bits move down, and the table says what eight bits make of the low octet. Assumes nothing.
use Prim.Native.Nat.{ℕ, ◌+◌, ◌-◌, ◌%◌}
use native.Mathlib.Omega.{arith}
use mathlib.Core.Path.{◌≡◌, sym}
use borrow.Author.Rules.{rules}
use Rattle.hrw.proofs.Laws.{crc_bits-octet}
use Rattle.hrw.proofs.crc_step.Statement.{statement}
use Rattle.hrw.proofs.crc_step.Tie as tie

above : (n : ℕ) → (256 + n % 256) - 256 ≡ n % 256
above n = omega arith

returns : tie.Need-returns
returns c =
    let mixed = c.args.mixed in
    rw (c.after_octet.ensures, above mixed) (sym (crc_bits-octet mixed))

pub crc_step_spec : {M : Type 1} → statement M
crc_step_spec =
    tie.close
    (tie.spec
    (λ c. search rules)
    (λ c κs. search rules)
    returns)
