-- What an election answers once it is known who may be elected and how one of them is chosen (document 01, "The election").
--   Answer                   == the whole answer: 0 and what is told of the elected router, or a refusal number and zeros
--   told_answer n e           == the answer with the number n and what e tells
--   answer_of r               == that answer, where a call answers r
--   refused_answer n          == the answer with the refusal n: every other number is zero
--   named_answer x a n set    == the answer that names the address x
--   Method                   == how one of the candidates is chosen: an algorithm, the digest by which algorithm 1 weighs, and the number that is told as the
--                               algorithm in use
--   by_tag a tag i            == the method of the algorithm a for a tag on the segment i: document 01's digest, and a is told
--   answer_by m cs set tag    == the answer by the method m with the candidates cs, whose set is `set`
--   Forwarder m cs tag r     == who it is that the answer r names
use Rattle.std.specs.Prelude.{ℕ, ◌%◌, ◌≡◌, false, cond, length, get_or, replicate, eqb, Result, Ok, Err}
use mathlib.Core.List.{List, Memᴰ}
use Rattle.address.specs.Address.{family_of, address_words}
use Rattle.layout.specs.Table.{Entry, no_entry}
use Rattle.hrw.specs.Weight.{digest_of}
use Rattle.winner.specs.Winner.{better, elected}
use Rattle.refusals.specs.Refusals.{none_eligible}
use Rattle.refusals.specs.Numbers.{refusal_number}
use Rattle.refusals.specs.declared.Refusal.{Refusal}
use Rattle.answers.specs.declared.Elected.{Elected}

pub record Answer : Type 0 where
  pub number : ℕ
  pub family : ℕ
  pub address : List ℕ
  pub algorithm : ℕ
  pub n : ℕ
  pub candidates : ℕ

abbrev pub refused_answer : ℕ → Answer
refused_answer n = record { number = n; family = 0; address = replicate 4 0; algorithm = 0; n = 0; candidates = 0 }

abbrev pub told_answer : ℕ → Elected → Answer
told_answer n e = record { number = n; family = e.family; address = e.address; algorithm = e.algorithm; n = e.n; candidates = e.candidates }

abbrev pub answer_of : Result Elected Refusal → Answer
answer_of (Ok e) = told_answer 0 e
answer_of (Err r) = refused_answer (refusal_number r)

-- the address is told as its family and its sixteen octets, in four words
abbrev pub named_answer : List ℕ → ℕ → ℕ → ℕ → Answer
named_answer x a n set = record { number = 0; family = family_of x; address = address_words x; algorithm = a; n = n; candidates = set }

pub record Method : Type 0 where
  pub algorithm : ℕ
  pub digest : ℕ
  pub told : ℕ

abbrev pub by_tag : ℕ → ℕ → List ℕ → Method
by_tag a tag i = record { algorithm = a; digest = digest_of tag i; told = a }

-- 12 where no route is eligible
unfoldable pub answer_by : Method → List Entry → ℕ → ℕ → Answer
answer_by m cs set tag =
    cond (eqb (length cs) 0) (refused_answer none_eligible) (named_answer (elected m.algorithm tag m.digest cs).address m.told (length cs) set)

-- the address named is that of a candidate. Under algorithms 1 to 3 no candidate is better, and it is the only such; under 0 it is the one at tag mod N
pub record Forwarder (m : Method) (cs : List Entry) (tag : ℕ) (r : Answer) : Type 0 where
  pub entry : Entry
  pub family : r.family ≡ family_of entry.address
  pub address : r.address ≡ address_words entry.address
  pub candidate : Memᴰ entry cs
  pub top : (m.algorithm ≡ 0 → ⊥) → (x : Entry) → Memᴰ x cs → better m.algorithm m.digest x entry ≡ false
  pub only : (m.algorithm ≡ 0 → ⊥) → (x : Entry) → Memᴰ x cs
      → ((y : Entry) → Memᴰ y cs → better m.algorithm m.digest y x ≡ false) → x ≡ entry
  pub counted : m.algorithm ≡ 0 → entry ≡ get_or cs (tag % length cs) no_entry
