-- `write_log` meets its contract: what the writer promises, and what the run that it writes does when it is played. Assumes nothing.
use Prim.Native.Nat.{ℕ, ◌<◌}
use native.Mathlib.Omega.{arith}
use mathlib.Core.Path.{◌≡◌, sym, subst}
use mathlib.Core.List.{List}
use lib.ListN.{take}
use borrow.Author.Rules.{rules}
use Rattle.lists.proofs.Lists.{every-place, every-at}
use Rattle.rows.proofs.Compared.{Words}
use Rattle.layout.specs.Table.{Entry, no_entry, Table}
use Rattle.layout.specs.Words.{table_in}
use Rattle.layout.proofs.Words.{narrow-entries}
use Rattle.layout.proofs.Addresses.{words-in}
use Rattle.log_octets.specs.Log.{log_of, logged_of}
use Rattle.replays.specs.Played.{AnswersAlike}
use Rattle.replays.proofs.Played.{answers-alike}
use Rattle.compaction.specs.Compaction.{PlaysBack}
use Rattle.compaction.proofs.Plays.{plays-back, not-reserved, run-written}
use Rattle.compaction.proofs.write_log.Statement.{statement}
use Rattle.compaction.proofs.write_log.Tie as tie

-- what is known of the words and of the writer's answer
module _ (told : tie.After-write_log) where
  abbrev known : tie.After-shared_slice_known-1
  known = told.before.before.before

  abbrev start : tie.Start
  start = known.before

  abbrev b : List ℕ
  b = start.args.t.now

  abbrev t : Table
  t = table_in b

  abbrev n : ℕ
  n = (logged_of told.write_log.result).number

  abbrev x : List ℕ
  x = take (logged_of told.write_log.result).length told.write_log.new.out

  wide : Words b
  wide j = (known.shared_slice_known-1.given j).fits

  run_is : n ≡ 0 → x ≡ log_of t
  run_is z = run-written t start.args.out.now n (logged_of told.write_log.result).length told.write_log.new.out told.write_log.ensures.0.0 told.write_log.ensures.0.1 told.write_log.ensures.1 z

  back : n ≡ 0 → PlaysBack (log_of t) t
  back z =
      plays-back t start.requires.sound
      (not-reserved t start.args.out.now n (logged_of told.write_log.result).length told.write_log.new.out told.write_log.ensures.0.0 told.write_log.ensures.0.1 told.write_log.ensures.1 z)
      (λ k. every-at (λ (o : ℕ). o < 256) t.esi k 0 (omega arith) start.requires.octets)
      (every-place (λ (e : Entry). Words e.address) t.entries no_entry (λ k h. words-in b start.requires k h wide))
      (narrow-entries b start.requires)

returns : tie.Need-returns
returns c =
    let told = c.before.before in
    let e = told.write_log.ensures in (
      e.0,
      (
        e.1,
        (
          λ z. subst (λ (s : List ℕ). PlaysBack s (t told)) (sym (run_is told z)) (back told z),
          λ z s h. subst (AnswersAlike s) (sym (run_is told z)) (answers-alike s (log_of (t told)) (t told) h (back told z).table),
        ),
      ),
    )

pub write_log_spec : {M : Type 1} → statement M
write_log_spec =
    tie.close
    (tie.spec
    (λ c κs. search rules)
    (λ c. search rules)
    returns)
