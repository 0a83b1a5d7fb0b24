-- The DF Election Extended Community (document 01, "The community").
--   weighs_preference a       == whether DP and preference mean something under the algorithm a
--   no_election               == what a route without an election community says
--   election_under a ac d p   == what an election community says under the algorithm a: DP and preference mean something only under 2 and 3
--   read_community s          == what the eight octets s of an election community say
--   community_octets e        == the eight octets of an election community that says e
--   is_election s             == whether the community s is an election community
--   communities n s          == the first n communities of the list s, eight octets each
--   elections cs             == the election communities among the communities cs
--   chosen cs                == what the election communities cs of one route say together
--   list_fits s               == whether a list of communities has a length that is allowed
--   election_in s             == what the list of communities s says
--   ListRead                  == the number of a reading, and what was read
--   told_list r               == the reading that the reader's result r is
--   read_list s               == the answer of the list's reader
--   write_number a n          == the answer of the writer, for the algorithm a and a buffer of n octets
--   community_written d ..    == what a buffer holds after the writer, where it held d
use Rattle.std.specs.Prelude.{ℕ, zero, suc, ◌+◌, ◌/◌, ◌%◌, Bool, false, cond, ◌&&◌, ◌||◌, List, [], ◌∷◌, ◌++◌, length, get_or, take, drop, ltb, leb, eqb, Result, Ok, Err}
use Rattle.lists.specs.Checks.{first_refusal}
use Rattle.octets.specs.Octets.{number_of, octets_of}
use Rattle.refusals.specs.Refusals.{algorithm_not_usable, buffer_short, list_length}
use Rattle.refusals.specs.Numbers.{refusal_number}
use Rattle.refusals.specs.declared.Refusal.{Refusal}
use Rattle.community.specs.declared.Election.{Election}

abbrev pub weighs_preference : ℕ → Bool
weighs_preference a = eqb a 2 || eqb a 3

unfoldable pub election_under : ℕ → Bool → Bool → ℕ → Election
election_under a ac d p = record {
  algorithm = a;
  ac_df = ac;
  dp = weighs_preference a && d;
  preference = cond (weighs_preference a) p 0;
}

-- no election community: algorithm 0, no capabilities
abbrev pub no_election : Election
no_election = record { algorithm = 0; ac_df = false; dp = false; preference = 0 }

-- Octets: 06 06, the algorithm in the low five bits, capabilities (80 hex is DP, 40 hex is AC-DF), more capabilities, reserved, preference
unfoldable pub read_community : List ℕ → Election
read_community s =
    election_under (get_or s 2 0 % 32) (eqb (get_or s 3 0 / 64 % 2) 1) (eqb (get_or s 3 0 / 128 % 2) 1) (number_of (take 2 (drop 6 s)))

unfoldable pub community_octets : Election → List ℕ
community_octets e =
    6 ∷ 6 ∷ e.algorithm ∷ (cond e.dp 128 0 + cond e.ac_df 64 0) ∷ 0 ∷ 0 ∷ octets_of 2 e.preference

-- A LIST: communities that do not start 06 06 are skipped; several election communities count as none, be they alike (document 02, M-101)
unfoldable pub is_election : List ℕ → Bool
is_election s = eqb (get_or s 0 0) 6 && eqb (get_or s 1 0) 6

unfoldable pub communities : ℕ → List ℕ → List (List ℕ)
communities zero s = []
communities (suc n) s = take 8 s ∷ communities n (drop 8 s)

unfoldable pub elections : List (List ℕ) → List (List ℕ)
elections [] = []
elections (c ∷ cs) = cond (is_election c) (c ∷ elections cs) (elections cs)

unfoldable pub chosen : List (List ℕ) → Election
chosen [] = no_election
chosen (c ∷ []) = read_community c
chosen (c ∷ d ∷ cs) = no_election

-- a multiple of 8 octets, 0 to 256
unfoldable pub list_fits : List ℕ → Bool
list_fits s = leb (length s) 256 && eqb (length s % 8) 0

unfoldable pub election_in : List ℕ → Election
election_in s = chosen (elections (communities (length s / 8) s))

pub record ListRead : Type 0 where
  pub number : ℕ
  pub election : Election

abbrev pub told_list : Result Election Refusal → ListRead
told_list (Ok e) = record { number = 0; election = e }
told_list (Err r) = record { number = refusal_number r; election = no_election }

unfoldable pub read_list : List ℕ → ListRead
read_list s =
    cond (list_fits s) (record { number = 0; election = election_in s }) (record { number = list_length; election = no_election })

-- WRITING: 15 for an algorithm above 31, then 14 for a buffer under 8 octets; only the first 8 octets change
unfoldable pub write_number : ℕ → ℕ → ℕ
write_number a n =
    first_refusal (
    (ltb 31 a, algorithm_not_usable)
    ∷ (ltb n 8, buffer_short)
    ∷ []
    )

unfoldable pub community_written : List ℕ → ℕ → Bool → Bool → ℕ → List ℕ
community_written d a ac dp p =
    cond (eqb (write_number a (length d)) 0) (community_octets (election_under a ac dp p) ++ drop 8 d) d
