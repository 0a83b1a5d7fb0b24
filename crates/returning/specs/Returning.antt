-- What a returning router advertises (document 01, "The returning router"; RFC 9785, section 4.3), also where ranges of tags are set (document 02, M-109).
--   others a l                 == the routes of l but that of the own address a
--   all_under g l               == whether all routes of l carry the algorithm g
--   reaches g p q              == whether the own preference p is at least (under 3: at most) the reference's, q
--   Sent                       == the answer: 0 and the pair that is sent, or a refusal's number and zeros
--   sent n p d                 == the answer with the number n and the pair p and d
--   sent_pair s                == the answer that sends the pair s
--   sent_in r                  == the answer that the result r is
--   reference g os             == the reference among the other routes os: the one that wins by rule 2, where g is 2, or by rule 3
--   fits g p e                 == whether the reference e is one whose preference is sent: its DP is set, and the own preference reaches it
--   beside_reference g p d e    == what is sent beside the reference e
--   keeps_own g d os            == whether the administrative pair is sent without a look at a reference
--   advertised g p d os        == the preference and DP that are sent, with the own algorithm g and the administrative pair p and d, beside the other routes os
--   returning_of l a g p d      == the whole answer, as document 01 has it
--   beside_both p d os          == what is sent beside both references
--   advertised_both g p d os    == as advertised, with both references
--   returning_with s l a g p d  == the whole answer, where s is set; with no range set it is document 01's
use Rattle.std.specs.Prelude.{ℕ, Bool, false, cond, not, ◌&&◌, ◌||◌, List, length, leb, eqb, Result, Ok, Err}
use Rattle.lists.specs.Lists.{all}
use Rattle.address.specs.Address.{address_key, is_zero}
use Rattle.keyed.specs.Keyed.{remove}
use Rattle.layout.specs.Table.{Entry, entry_key, no_entry}
use Rattle.settings.specs.Settings.{Settings, any_range}
use Rattle.choice.specs.Choice.{best_in}
use Rattle.winner.specs.Winner.{better}
use Rattle.refusals.specs.Refusals.{algorithm_not_usable, address_zero}
use Rattle.refusals.specs.Numbers.{refusal_number}
use Rattle.refusals.specs.declared.Refusal.{Refusal}
use Rattle.returning.specs.declared.Pair.{Pair}

abbrev pub others : List ℕ → List Entry → List Entry
others a l = remove entry_key (address_key a) l

unfoldable pub all_under : ℕ → List Entry → Bool
all_under g l = all (λ e. eqb e.algorithm g) l

unfoldable pub reaches : ℕ → ℕ → ℕ → Bool
reaches g p q = cond (eqb g 3) (leb p q) (leb q p)

pub record Sent : Type 0 where
  pub number : ℕ
  pub preference : ℕ
  pub dp : Bool

abbrev pub sent : ℕ → ℕ → Bool → Sent
sent n p d = record { number = n; preference = p; dp = d }

abbrev pub sent_pair : Pair → Sent
sent_pair s = sent 0 s.preference s.dp

abbrev pub sent_in : Result Pair Refusal → Sent
sent_in (Ok s) = sent_pair s
sent_in (Err r) = sent (refusal_number r) 0 false

abbrev pub reference : ℕ → List Entry → Entry
reference g os = best_in (better g 0) no_entry os

unfoldable pub fits : ℕ → ℕ → Entry → Bool
fits g p e = e.dp && reaches g p e.preference

-- the reference's preference is sent, with DP clear, if it fits
unfoldable pub beside_reference : ℕ → ℕ → Bool → Entry → Sent
beside_reference g p d e = cond (fits g p e) (sent 0 e.preference false) (sent 0 p d)

-- the administrative pair, if the own DP is clear, no other route stands, or any other route has a different algorithm
unfoldable pub keeps_own : ℕ → Bool → List Entry → Bool
keeps_own g d os = not d || (eqb (length os) 0 || not (all_under g os))

unfoldable pub advertised : ℕ → ℕ → Bool → List Entry → Sent
advertised g p d os = cond (keeps_own g d os) (sent 0 p d) (beside_reference g p d (reference g os))

-- 15 for an algorithm that is not 2 or 3, then 6 for address zero
unfoldable pub returning_of : List Entry → List ℕ → ℕ → ℕ → Bool → Sent
returning_of l a g p d =
    cond (not (eqb g 2 || eqb g 3)) (sent algorithm_not_usable 0 false) (cond (is_zero a) (sent address_zero 0 false) (advertised g p d (others a l)))

-- RANGES. Both references are tried, first the Highest and then the Lowest, whatever the own algorithm is and the ranges name; the first that fits is sent
unfoldable pub beside_both : ℕ → Bool → List Entry → Sent
beside_both p d os = cond (fits 2 p (reference 2 os)) (sent 0 (reference 2 os).preference false) (beside_reference 3 p d (reference 3 os))

unfoldable pub advertised_both : ℕ → ℕ → Bool → List Entry → Sent
advertised_both g p d os = cond (keeps_own g d os) (sent 0 p d) (beside_both p d os)

unfoldable pub returning_with : Settings → List Entry → List ℕ → ℕ → ℕ → Bool → Sent
returning_with s l a g p d =
    cond (not (eqb g 2 || eqb g 3)) (sent algorithm_not_usable 0 false)
    (cond (is_zero a) (sent address_zero 0 false)
    (cond (any_range s) (advertised_both g p d (others a l)) (advertised g p d (others a l))))
