-- Laws of `specs/Community.antt`: what a list says, walked from place to place, and that a written community reads back. Assumes nothing.
use Prim.Native.Nat.{ℕ, suc, ◌+◌, ◌-◌, ◌/◌, ◌%◌, ◌≤◌, ◌<◌}
use native.Mathlib.Nat.{mod-eq_of_lt, add-zero}
use native.Mathlib.Omega.{arith}
use mathlib.Core.Path.{◌≡◌, refl, ap, sym, ◌∙◌}
use mathlib.Core.Bool.{Bool, true, false, cond, ◌&&◌, and-false}
use mathlib.Core.List.{List, [], ◌∷◌, ◌++◌}
use lib.ListN.{length, get_or, take, drop, length-drop}
use lib.Seq.{length-take-le, get_or-take, get_or-drop, drop-drop, take_all, take_at}
use lib.Dec.{eqb}
use borrow.Author.Tests.{eq-eqb, ne_eqb, le-leb, lt-leb, le-ltb, lt-ltb}
use Rattle.lists.proofs.Bools.{by-test, not-true-false, cond-by, one_of_two}
use Rattle.lists.proofs.Checks.{refused-at, refused_none}
use Rattle.octets.specs.Octets.{number_of, octets_of, stored}
use Rattle.octets.proofs.Laws.{length-octets, number-octets-small, stored-front, take-elements}
use Rattle.community.specs.Community.{weighs_preference, election_under, no_election, read_community, community_octets, is_election, communities, elections, chosen, list_fits, election_in, read_list, write_number, community_written, ListRead}
use Rattle.community.specs.Search.{elections_from}
use Rattle.community.specs.declared.Election.{Election}

-- WHAT A COMMUNITY SAYS under an algorithm
abbrev Says : ℕ → Bool → Bool → ℕ → Election
Says a ac d p = record { algorithm = a; ac_df = ac; dp = d; preference = p }

module _ (a : ℕ) (ac d : Bool) (p : ℕ) where
  under-test : (w : Bool) → weighs_preference a ≡ w → election_under a ac d p ≡ Says a ac (w && d) (cond w p 0)
  unfolding election_under
  under-test w e = rw e

  pub under-weighs : 2 ≤ a → a ≤ 3 → Says a ac d p ≡ election_under a ac d p
  under-weighs h k = sym (under-test true (one_of_two 2 a h k))

  pub under-other : (a ≡ 2 → ⊥) → (a ≡ 3 → ⊥) → Says a ac false 0 ≡ election_under a ac d p
  under-other m n = sym (under-test false (rw (ne_eqb a 2 m, ne_eqb a 3 n)))

-- A WALK OVER A LIST: from a place, in steps of eight
communities-step : (n : ℕ) (s : List ℕ) → elections (communities (suc n) s) ≡ cond (is_election (take 8 s)) (take 8 s ∷ elections (communities n (drop 8 s))) (elections (communities n (drop 8 s)))
unfolding communities elections
communities-step n s = refl

module _ (s : List ℕ) (at : ℕ) where
  is-election : is_election (take 8 (drop at s)) ≡ (eqb (get_or s at 0) 6 && eqb (get_or s (at + 1) 0) 6)
  unfolding is_election
  is-election = rw (get_or-take 8 (drop at s) 0 0 (omega arith), get_or-take 8 (drop at s) 1 0 (omega arith), get_or-drop at s 0 0, get_or-drop at s 1 0, add-zero)

  pub from_end : length s ≤ at → elections_from s at ≡ []
  unfolding elections_from communities elections
  from_end h = let z : (length s - at) / 8 ≡ 0 = omega arith in rw z

  module _ (m : length s % 8 ≡ 0) (a : at % 8 ≡ 0) (h : at < length s) where
    pub fits-at : at + 8 ≤ length s
    fits-at = omega arith

    from_step : elections_from s at ≡ cond (is_election (take 8 (drop at s))) (take 8 (drop at s) ∷ elections_from s (at + 8)) (elections_from s (at + 8))
    unfolding elections_from
    from_step =
        let more : (length s - at) / 8 ≡ suc ((length s - (at + 8)) / 8) = omega arith in
        rw (more, communities-step, drop-drop)

    pub from-hit : get_or s at 0 ≡ 6 → get_or s (at + 1) 0 ≡ 6 → elections_from s at ≡ take 8 (drop at s) ∷ elections_from s (at + 8)
    from-hit p q = from_step ∙ rw (is-election, eq-eqb _ _ p, eq-eqb _ _ q)

    pub from_first : (get_or s at 0 ≡ 6 → ⊥) → elections_from s at ≡ elections_from s (at + 8)
    from_first p = from_step ∙ rw (is-election, ne_eqb _ _ p)

    pub from_second : (get_or s (at + 1) 0 ≡ 6 → ⊥) → elections_from s at ≡ elections_from s (at + 8)
    from_second p = from_step ∙ rw (is-election, ne_eqb _ _ p, and-false)

-- what the code of the search goes by
pub ruleset walking = (from_end, from-hit, from_first, from_second)

-- the community at a place, read octet by octet
module _ (s : List ℕ) (at v : ℕ) where
  preference : at + 8 ≤ length s → take 2 (drop 6 (take 8 (drop at s))) ≡ get_or s (at + 6) 0 ∷ get_or s (at + 7) 0 ∷ []
  preference h =
      take-elements 2 6 (take 8 (drop at s)) (simp (length-take-le 8 (drop at s) (simp length-drop (omega arith))) (omega arith))
      ∙ rw (get_or-take 8 (drop at s) 6 0 (omega arith), get_or-take 8 (drop at s) 7 0 (omega arith), get_or-drop at s 6 0, get_or-drop at s 7 0)

  pub read_at : at + 8 ≤ length s → v ≡ number_of (get_or s (at + 6) 0 ∷ get_or s (at + 7) 0 ∷ [])
      → election_under (get_or s (at + 2) 0 % 32) (eqb (get_or s (at + 3) 0 / 64 % 2) 1) (eqb (get_or s (at + 3) 0 / 128 % 2) 1) v
      ≡ read_community (take 8 (drop at s))
  unfolding read_community
  read_at h e =
      rw (get_or-take 8 (drop at s) 2 0 (omega arith), get_or-take 8 (drop at s) 3 0 (omega arith), get_or-drop at s 2 0, get_or-drop at s 3 0)
      (ap (election_under _ _ _) (e ∙ ap number_of (sym (preference h))))

-- WHAT THE READER ANSWERS
module _ (s : List ℕ) where
  pub list-long : 256 < length s → record { number = 7; election = no_election } ≡ read_list s
  unfolding read_list list_fits
  list-long h = rw (lt-leb _ _ h)

  pub list-odd : (length s % 8 ≡ 0 → ⊥) → record { number = 7; election = no_election } ≡ read_list s
  unfolding read_list list_fits
  list-odd h = rw (ne_eqb _ _ h, and-false)

  module _ (h : length s ≤ 256) (m : length s % 8 ≡ 0) where
    pub list-fits : list_fits s ≡ true
    unfolding list_fits
    list-fits = rw (le-leb _ _ h, eq-eqb _ _ m)

    list_read : (cs : List (List ℕ)) → elections_from s 0 ≡ cs → record { number = 0; election = chosen cs } ≡ read_list s
    unfolding read_list election_in elections_from
    list_read cs e = let z : length s - 0 ≡ length s = omega arith in rw (list-fits, ← e, z)

    pub list-none : elections_from s 0 ≡ [] → record { number = 0; election = no_election } ≡ read_list s
    unfolding chosen
    list-none e = list_read [] e

    -- a first election community, and what stands from place n on, behind it
    module _ (c : List ℕ) (n : ℕ) (e : elections_from s 0 ≡ c ∷ elections_from s n) where
      pub list-one : elections_from s n ≡ [] → record { number = 0; election = read_community c } ≡ read_list s
      unfolding chosen
      list-one f = list_read (c ∷ []) (e ∙ ap (c ∷◌) f)

      pub list-several : (d : List ℕ) (cs : List (List ℕ)) → elections_from s n ≡ d ∷ cs → record { number = 0; election = no_election } ≡ read_list s
      unfolding chosen
      list-several d cs f = list_read (c ∷ d ∷ cs) (e ∙ ap (c ∷◌) f)

-- what the code of the reader goes by
pub ruleset lists_read = (list-long, list-odd, list-none, list-one, list-several)

-- a list is refused exactly if its length is wrong, and its number tells which it is
answer-of : (s : List ℕ) (b : Bool) → list_fits s ≡ b → read_list s ≡ cond b (record { number = 0; election = election_in s }) (record { number = 7; election = no_election })
unfolding read_list
answer-of s b e = rw e

pub list-refused : (s : List ℕ) → ((read_list s).number ≡ 0 → ⊥) → list_fits s ≡ false
list-refused s n = not-true-false (λ e. n (ap (λ (r : ListRead). r.number) (answer-of s true e)))

pub list-accepted : (s : List ℕ) → (read_list s).number ≡ 0 → (list_fits s ≡ true) × ((read_list s).election ≡ election_in s)
list-accepted s h =
    by-test (list_fits s)
    (λ e. (e, ap (λ (r : ListRead). r.election) (answer-of s true e)))
    (λ e. absurd (omega (arith, h, ap (λ (r : ListRead). r.number) (answer-of s false e))))

-- THE WAY BACK: what was written reads as it was meant
under-again : (a : ℕ) (ac d : Bool) (p : ℕ) → election_under a ac (election_under a ac d p).dp (election_under a ac d p).preference ≡ election_under a ac d p
unfolding election_under
under-again a ac d p = go (weighs_preference a)
  where
    go : (w : Bool) → Says a ac (w && (w && d)) (cond w (cond w p 0) 0) ≡ Says a ac (w && d) (cond w p 0)
    go true = refl
    go false = refl

read-octets : (a : ℕ) (ac d : Bool) (p : ℕ) → a < 32 → p < 65536 → read_community (community_octets (Says a ac d p)) ≡ election_under a ac d p
unfolding read_community community_octets
read-octets a ac d p h k = rw (mod-eq_of_lt h) (go ac d)
  where
    two : number_of (take 2 (octets_of 2 p)) ≡ p
    two = ap number_of (take_all 2 (octets_of 2 p) (omega (arith, length-octets 2 p))) ∙ number-octets-small 2 p k

    go : (ac d : Bool) → election_under a (eqb ((cond d 128 0 + cond ac 64 0) / 64 % 2) 1) (eqb ((cond d 128 0 + cond ac 64 0) / 128 % 2) 1) (number_of (take 2 (octets_of 2 p))) ≡ election_under a ac d p
    go true true = ap (election_under a true true) two
    go true false = ap (election_under a true false) two
    go false true = ap (election_under a false true) two
    go false false = ap (election_under a false false) two

pub length-community : (e : Election) → length (community_octets e) ≡ 8
unfolding community_octets
length-community e = omega (arith, length-octets 2 e.preference)

-- a list of one election community
read_one : (e : Election) → read_list (community_octets e) ≡ record { number = 0; election = read_community (community_octets e) }
unfolding community_octets read_list list_fits election_in communities elections is_election chosen octets_of
read_one e = refl

-- and what such a list says, where it was written for an algorithm of five bits and a preference of 16
module _ (a : ℕ) (ac dp : Bool) (p : ℕ) (h : a ≤ 31) (b : p < 65536) where
  small : (election_under a ac dp p).preference < 65536
  unfolding election_under
  small = cond-by (λ (q : ℕ). q < 65536) (weighs_preference a) (λ _. b) (λ _. omega arith)

  read_again : read_community (community_octets (election_under a ac dp p)) ≡ election_under a ac dp p
  unfolding election_under
  read_again =
      let e = election_under a ac dp p in
      read-octets a ac e.dp e.preference (omega arith) small ∙ under-again a ac dp p

  pub says-again : election_in (community_octets (election_under a ac dp p)) ≡ election_under a ac dp p
  unfolding community_octets election_in communities elections is_election chosen octets_of
  says-again = read_again

-- the octets that the writer stores
pub image : (a : ℕ) (ac dp : Bool) (p f : ℕ) (u : Election) (w : List ℕ) → u ≡ election_under a ac dp p → f ≡ cond u.dp 128 0 + cond ac 64 0 → w ≡ octets_of 2 u.preference
    → 6 ∷ 6 ∷ a ∷ f ∷ 0 ∷ 0 ∷ get_or w 0 0 ∷ get_or w 1 0 ∷ [] ≡ community_octets (election_under a ac dp p)
unfolding community_octets election_under octets_of
image a ac dp p f u w eu ef ew = rw (ew, ef, eu)

-- WHAT THE WRITER LEAVES
module _ (d : List ℕ) (a : ℕ) (ac dp : Bool) (p : ℕ) where
  -- what the writer promises of its answer n and of what the buffer then holds
  abbrev pub Wrote : ℕ → List ℕ → Type 0
  Wrote n l =
      (n ≡ write_number a (length d))
      × ((l ≡ community_written d a ac dp p)
      × (n ≡ 0 → read_list (take 8 l) ≡ record { number = 0; election = election_under a ac dp p }))

  refused : (n : ℕ) → suc n ≡ write_number a (length d) → Wrote (suc n) d
  unfolding community_written
  refused n e = (e, (rw (← e, ne_eqb (suc n) 0 (λ z. omega arith)), λ z. absurd (omega arith)))

  pub wrote-high : 31 < a → Wrote 15 d
  unfolding write_number
  wrote-high h = refused 14 (refused-at 0 _ tt (lt-ltb _ _ h))

  pub wrote-short : a ≤ 31 → length d < 8 → Wrote 14 d
  unfolding write_number
  wrote-short h k = refused 13 (refused-at 1 _ (le-ltb _ _ h, tt) (lt-ltb _ _ k))

  module _ (h : a ≤ 31) (k : 8 ≤ length d) (b : p < 65536) where
    number-right : 0 ≡ write_number a (length d)
    unfolding write_number
    number-right = refused_none _ (le-ltb _ _ h, (le-ltb _ _ k, tt))

    abbrev e : Election
    e = election_under a ac dp p

    community-written : community_octets e ++ drop 8 d ≡ community_written d a ac dp p
    unfolding community_written
    community-written = rw (← number-right)

    reads-back : read_list (take 8 (community_octets e ++ drop 8 d)) ≡ record { number = 0; election = e }
    reads-back =
        ap read_list (take_at (community_octets e) (drop 8 d) 8 (length-community e))
        ∙ read_one e
        ∙ ap said (read_again a ac dp p h b)
      where
        said : Election → ListRead
        said x = record { number = 0; election = x }

    pub wrote : (l o : List ℕ) → o ≡ community_octets e → l ≡ stored d 0 o → Wrote 0 l
    wrote l o w q =
        let f : l ≡ community_octets e ++ drop 8 d = q ∙ rw (w, stored-front d (community_octets e) (omega (arith, length-community e)), length-community e) in
        (number-right, (f ∙ community-written, λ z. rw f reads-back))

-- what the code of the writer goes by
module _ (d : List ℕ) (a : ℕ) (ac dp : Bool) (p : ℕ) where
  pub number_high : 31 < a → 15 ≡ write_number a (length d)
  number_high h = (wrote-high d a ac dp p h).0

  pub kept_high : 31 < a → d ≡ community_written d a ac dp p
  kept_high h = (wrote-high d a ac dp p h).1.0

  pub number_short : a ≤ 31 → length d < 8 → 14 ≡ write_number a (length d)
  number_short h k = (wrote-short d a ac dp p h k).0

  pub kept_short : a ≤ 31 → length d < 8 → d ≡ community_written d a ac dp p
  kept_short h k = (wrote-short d a ac dp p h k).1.0

pub ruleset writing = (number_high, kept_high, number_short, kept_short)

-- WHAT A LIST CAN SAY: an algorithm of five bits, and DP and preference under 2 and 3 only
abbrev pub Right : Election → Type 0
Right e = (e.algorithm ≤ 31) × (e ≡ election_under e.algorithm e.ac_df e.dp e.preference)

right-none : Right no_election
unfolding election_under
right-none = (omega arith, refl)

right-under : (a : ℕ) (ac d : Bool) (p : ℕ) → a ≤ 31 → Right (election_under a ac d p)
unfolding election_under
right-under a ac d p h = (h, sym (under-again a ac d p))

right-chosen : (cs : List (List ℕ)) → Right (chosen cs)
unfolding chosen read_community
right-chosen [] = right-none
right-chosen (c ∷ []) = right-under (get_or c 2 0 % 32) _ _ _ (omega arith)
right-chosen (c ∷ d ∷ cs) = right-none

pub election-right : (s : List ℕ) → Right (election_in s)
unfolding election_in
election-right s = right-chosen (elections (communities (length s / 8) s))
