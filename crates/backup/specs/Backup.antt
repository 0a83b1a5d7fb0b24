-- The second in line (document 02, M-113): the backup is the one elected among the eligible without the forwarder, under the same algorithm. It is named for algorithms 1 to 3.
--   Backup                         == the whole answer: 0 and the address that is named, its family and its words, or a refusal's number and zeros
--   refused_backup n               == the answer with the refusal n: every other number is zero
--   named_backup x                 == the answer that names the address x
--   backup_named x                 == the answer that names what x does
--   backup_in r                    == the answer that the result r is
--   without_forwarder m cs tag     == the candidates cs without the one elected by the method m
--   backup_by m cs tag             == the answer by the method m with the candidates cs
--   backup_with s i l tag ready    == the whole answer, where s is set and l are the entries of the table of i
--   SecondInLine m cs tag r       == who it is that the answer r names
use Rattle.std.specs.Prelude.{ℕ, ◌≡◌, false, cond, length, replicate, ltb, eqb, Result, Ok, Err}
use mathlib.Core.List.{List, Memᴰ}
use Rattle.keyed.specs.Keyed.{remove}
use Rattle.address.specs.Address.{family_of, address_words}
use Rattle.layout.specs.Table.{Entry, entry_key}
use Rattle.tags.specs.Tags.{reserved_tag}
use Rattle.settings.specs.Settings.{Settings}
use Rattle.agreement.specs.Agreement.{in_use_with}
use Rattle.winner.specs.Winner.{better, elected}
use Rattle.answers.specs.Answers.{Method}
use Rattle.election.specs.Queries.{plain, method_of, candidates_of}
use Rattle.refusals.specs.Refusals.{tag_reserved, ready_too_long, none_eligible, algorithm_not_usable}
use Rattle.refusals.specs.Numbers.{refusal_number}
use Rattle.refusals.specs.declared.Refusal.{Refusal}
use Rattle.backup.specs.declared.Named.{Named}

pub record Backup : Type 0 where
  pub number : ℕ
  pub family : ℕ
  pub address : List ℕ

abbrev pub refused_backup : ℕ → Backup
refused_backup n = record { number = n; family = 0; address = replicate 4 0 }

-- the address is told as its family and its sixteen octets, in four words
abbrev pub named_backup : List ℕ → Backup
named_backup x = record { number = 0; family = family_of x; address = address_words x }

abbrev pub backup_named : Named → Backup
backup_named x = record { number = 0; family = x.family; address = x.address }

abbrev pub backup_in : Result Named Refusal → Backup
backup_in (Ok x) = backup_named x
backup_in (Err r) = refused_backup (refusal_number r)

abbrev pub without_forwarder : Method → List Entry → ℕ → List Entry
without_forwarder m cs tag = remove entry_key (entry_key (elected m.algorithm tag m.digest cs)) cs

-- 12 where fewer than two routes are eligible
unfoldable pub backup_by : Method → List Entry → ℕ → Backup
backup_by m cs tag =
    cond (ltb (length cs) 2) (refused_backup none_eligible) (named_backup (elected m.algorithm tag m.digest (without_forwarder m cs tag)).address)

-- 10 for a reserved tag, 11 for a list over 64, 12 for an empty table, 15 where algorithm 0 is in use, and then the other 12s
unfoldable pub backup_with : Settings → List ℕ → List Entry → ℕ → List (List ℕ) → Backup
backup_with s i l tag ready =
    cond (reserved_tag tag) (refused_backup tag_reserved)
    (cond (ltb 64 (length ready)) (refused_backup ready_too_long)
    (cond (eqb (length l) 0) (refused_backup none_eligible)
    (cond (eqb (in_use_with s l).algorithm 0) (refused_backup algorithm_not_usable)
    (backup_by (method_of s plain i l tag) (candidates_of s l ready) tag))))

-- the address named is that of a candidate other than the forwarder, and no candidate other than the forwarder is better
pub record SecondInLine (m : Method) (cs : List Entry) (tag : ℕ) (r : Backup) : Type 0 where
  pub entry : Entry
  pub family : r.family ≡ family_of entry.address
  pub address : r.address ≡ address_words entry.address
  pub candidate : Memᴰ entry cs
  pub other : entry_key entry ≡ entry_key (elected m.algorithm tag m.digest cs) → ⊥
  pub top : (x : Entry) → Memᴰ x cs → (entry_key x ≡ entry_key (elected m.algorithm tag m.digest cs) → ⊥) → better m.algorithm m.digest x entry ≡ false
