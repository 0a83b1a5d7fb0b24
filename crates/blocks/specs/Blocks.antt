-- What blocks of input, taken record by record, leave and print (document 01, "The bench program").
--   stopped b s n           == whether no record is taken from the state b with the octets s left and room for n octets: the run has ended, the room is
--                              less than 48, or s is no whole record yet
--   Advanced b s i d w p q e
--                           == from the state b, at position i of the input s, one record or none was taken: its line is written at position w of the
--                              buffer that held d, which then holds e, and whatever follows s, the run is that line and then the run from the
--                              state q at the position that p says
--   Ran b s d p q e         == from the state b, records of the input s were taken: what they print stands in the first octets of the buffer that held d,
--                              which then holds e, its other octets as they were; and whatever follows s, the run is that and then the run from the
--                              state q at the position that p says
--   Stopped s d p q         == whether the run had to stop in the state q at the position that p says, with the input s and a buffer of the length of d
--   kept s i n              == the octets from position i up to position n of s
--   last_of k s              == the last k octets of s
--   next_in h n              == what is to be done next, in the phase h with room for n octets left
--   Why q s n x             == why no more is taken in the state q, with the octets s left and room for n octets, where x is to be done next
--   BlockTaken b s n d p q u e
--                           == from the state b the first n octets of a block that held s were taken, as far as that could be, into a buffer that held d:
--                              p is the answer, q the state after it, u what the block then holds and e what the buffer then holds
use Rattle.std.specs.Prelude.{ℕ, ◌-◌, ◌≤◌, ◌<◌, ◌≡◌, Bool, true, false, cond, ◌||◌, List, ◌++◌, length, take, drop, ltb}
use Rattle.octets.specs.Octets.{stored}
use Rattle.frames.specs.Frames.{front}
use Rattle.turns.specs.declared.Phase.{Phase}
use Rattle.answer_lines.specs.AnswerLines.{Written}
use Rattle.turns.specs.Turns.{Bench}
use Rattle.records.specs.Records.{is_end, has_ended, run_from}
use Rattle.run_ends.specs.Parts.{is_part}
use Rattle.blocks.specs.declared.Progress.{Progress}
use Rattle.blocks.specs.declared.Next.{Next}
use Rattle.blocks.specs.declared.Next.TheVariants.{Done, Again, Read}
use Rattle.blocks.specs.declared.Taken.{Taken}

unfoldable pub stopped : Bench → List ℕ → ℕ → Bool
stopped b s n = has_ended b || (ltb n 48 || is_part (front s))

pub record Advanced (b : Bench) (s : List ℕ) (i : ℕ) (d : List ℕ) (w : ℕ) (p : Progress) (q : Bench) (e : List ℕ) : Type 0 where
  pub line : List ℕ
  pub put : Written d w line p.wrote e
  pub used : p.used ≤ length s
  pub forward : i ≤ p.used
  pub run : (r : List ℕ) → run_from b (drop i s ++ r) ≡ line ++ run_from q (drop p.used s ++ r)
  pub still : i ≡ p.used → stopped q (drop p.used s) (length d - p.wrote) ≡ true

pub record Ran (b : Bench) (s d : List ℕ) (p : Progress) (q : Bench) (e : List ℕ) : Type 0 where
  pub used : p.used ≤ length s
  pub wrote : p.wrote ≤ length d
  pub run : (r : List ℕ) → run_from b (s ++ r) ≡ take p.wrote e ++ run_from q (drop p.used s ++ r)
  pub others : drop p.wrote e ≡ drop p.wrote d

abbrev pub Stopped : List ℕ → List ℕ → Progress → Bench → Bool
Stopped s d p q = stopped q (drop p.used s) (length d - p.wrote)

abbrev pub kept : List ℕ → ℕ → ℕ → List ℕ
kept s i n = drop i (take n s)

-- A BLOCK
unfoldable pub last_of : ℕ → List ℕ → List ℕ
last_of k s = drop (length s - k) s

unfoldable pub next_in : Phase → ℕ → Next
next_in h n = cond (is_end h) Done (cond (ltb n 48) Again Read)

-- no line is longer than 48 octets, and no record than 259: what may still become one is shorter
pub data Why (q : Bench) (s : List ℕ) (n : ℕ) (x : Next) : Type 0 where
  ended : x ≡ Done → has_ended q ≡ true → Why q s n x
  full : x ≡ Again → has_ended q ≡ false → n < 48 → Why q s n x
  part : x ≡ Read → has_ended q ≡ false → 48 ≤ n → is_part (front s) ≡ true → length s < 259 → Why q s n x

pub record BlockTaken (b : Bench) (s : List ℕ) (n : ℕ) (d : List ℕ) (p : Taken) (q : Bench) (u e : List ℕ) : Type 0 where
  -- whatever follows the octets that were handed in, the run is what was made of them, and then the run from here on what is left and what follows
  pub run : (r : List ℕ) → run_from b (take n s ++ r) ≡ take p.wrote e ++ run_from q (take p.left u ++ r)
  -- the output stands at the front of the buffer, and its other octets are as they were
  pub wrote : p.wrote ≤ length d
  pub others : drop p.wrote e ≡ drop p.wrote d
  -- the last of the octets that were handed in stand at the front of the block, and its other octets are as they were
  pub left : p.left ≤ length (take n s)
  pub block : u ≡ stored s 0 (last_of p.left (take n s))
  -- why no more was taken
  pub why : Why q (take p.left u) (length d - p.wrote) p.next
