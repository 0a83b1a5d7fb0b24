-- Laws of `specs/Settings.antt`: settings and their words, what setting numbers or ranges answers and keeps, and which numbers are set. Assumes nothing.
use Prim.Native.Nat.{ℕ, suc, ◌-◌, ◌≤◌, ◌<◌}
use native.Mathlib.Omega.{arith}
use mathlib.Core.Path.{◌≡◌, refl, ap, ◌∙◌, sym, subst}
use mathlib.Core.Bool.{Bool, true, false, not, ◌&&◌, ◌||◌}
use mathlib.Core.List.{List, [], ◌∷◌, ◌++◌}
use mathlib.Core.Logic.{◌⊎◌, inl, inr, ⊎_elim}
use lib.ListN.{length, get_or, set, take, drop, replicate}
use lib.Dec.{ltb, leb, eqb}
use borrow.Author.Tests.{ltb-true, eqb-true, le-leb, lt-leb, lt-ltb, le-ltb, eq-eqb, ne_eqb}
use Rattle.refusals.specs.Refusals.{algorithm_not_usable}
use Rattle.lists.proofs.Bools.{by-test, cond-by, true-false, not-eq}
use Rattle.lists.proofs.Numbers.{either}
use Rattle.rows.specs.Rows.{flat}
use Rattle.ranges.specs.Ranges.{ranges_set, RangesRight}
use Rattle.ranges.proofs.Laws as ranges
use Rattle.tag_ranges.specs.TagRanges.{tag_ranges_words, tag_ranges_in, ValidTagRanges, TagRangesTold}
use Rattle.tag_ranges.proofs.Laws as tagged
use Rattle.tag_ranges.proofs.Laws.{part-from, none-behind}
use Rattle.settings.specs.Settings.{Settings, nothing_set, from_four_to_thirty, may_be_set, is_set, numbers_set, ranges_given, settings_words, settings_in, SettingsRight, ValidSettings, SettingsTold}

-- WORDS
pub settings-words-in : (s : Settings) (b : List ℕ) → RangesRight s.ranges → b ≡ settings_words s → settings_in b ≡ s
unfolding settings_words settings_in
settings-words-in s b r e = rw (e, tagged.words-in s.ranges r (tag_ranges_words s.ranges) refl)

pub none_right : SettingsRight nothing_set
none_right = record { numbers = inl (refl, refl); ranges = ranges.none-ranges }

-- the words of settings that the calls can have made
pub words-valid : (s : Settings) (b : List ℕ) → b ≡ settings_words s → SettingsRight s → ValidSettings b
words-valid s b e r =
    let i = settings-words-in s b r.ranges e in record {
      sound = subst SettingsRight (sym i) r;
      whole = e ∙ ap settings_words (sym i);
    }

pub zeros-none : (settings_in (replicate 102 0) ≡ nothing_set) × ValidSettings (replicate 102 0)
unfolding settings_words
zeros-none =
    let e : replicate 102 0 ≡ settings_words nothing_set = ap (λ (l : List ℕ). 0 ∷ 0 ∷ l) ((tagged.zeros-none).1.whole ∙ ap tag_ranges_words (tagged.zeros-none).0) in
    (settings-words-in nothing_set (replicate 102 0) ranges.none-ranges e, words-valid nothing_set (replicate 102 0) e none_right)

-- their parts
module _ (b : List ℕ) (v : ValidSettings b) where
  parted : b ≡ get_or b 0 0 ∷ get_or b 1 0 ∷ tag_ranges_words (tag_ranges_in (drop 2 b))
  unfolding settings_words settings_in
  parted = v.whole

  pub valid-ranges : ValidTagRanges (drop 2 b)
  unfolding settings_in
  valid-ranges = tagged.words-valid (tag_ranges_in (drop 2 b)) v.sound.ranges (drop 2 b) (ap (drop 2) parted)

  pub length-settings : length b ≡ 102
  length-settings = ap length parted ∙ ap (λ (n : ℕ). suc (suc n)) (ap length (sym valid-ranges.whole) ∙ tagged.length-tag-ranges (drop 2 b) valid-ranges)

  pub valid-ranges-part : ValidTagRanges (take (length b - 2) (drop 2 b))
  valid-ranges-part = rw (part-from 2 b) valid-ranges

  -- both numbers written anew
  pub words-set : (x y : ℕ) → set (set b 0 x) 1 y ≡ settings_words (record { by_source_group = x; by_any_source = y; ranges = (settings_in b).ranges })
  unfolding settings_words settings_in
  words-set x y = ap (λ (l : List ℕ). set (set l 0 x) 1 y) parted

  -- and the ranges'
  ranges-set : (y : List ℕ) (l : List (List ℕ)) → y ≡ tag_ranges_words l
      → take 2 b ++ (y ++ drop (length b - 2) (drop 2 b)) ≡ settings_words (record { by_source_group = (settings_in b).by_source_group; by_any_source = (settings_in b).by_any_source; ranges = l })
  unfolding settings_words settings_in
  ranges-set y l e = rw (none-behind 2 b y) (ap (λ (x : List ℕ). take 2 x ++ y) parted ∙ ap (λ (x : List ℕ). get_or b 0 0 ∷ get_or b 1 0 ∷ x) e)

-- NUMBERS THAT MAY BE SET
pub below-four : (a : ℕ) → a < 4 → from_four_to_thirty a ≡ false
below-four a h = rw (le-ltb 3 a (omega arith))

pub four-or-more : (a : ℕ) → 4 ≤ a → leb a 30 ≡ from_four_to_thirty a
four-or-more a h =
    rw (lt-ltb 3 a (omega arith))
    (either a 31 (λ l. le-leb a 30 (omega arith) ∙ sym (lt-ltb a 31 l)) (λ g. lt-leb a 30 (omega arith) ∙ sym (le-ltb a 31 g)))

-- what was tested of numbers that may be set
both : (p q : Bool) → (p && q) ≡ true → (p ≡ true) × (q ≡ true)
both true q h = (refl, h)
both false q h = (h, cc)

pub in-range-bounds : (a : ℕ) → from_four_to_thirty a ≡ true → (3 < a) × (a < 31)
in-range-bounds a h = let t = both (ltb 3 a) (ltb a 31) h in (ltb-true 3 a t.0, ltb-true a 31 t.1)

pub may-be-set-parts : (a b : ℕ) → may_be_set a b ≡ true → (from_four_to_thirty a ≡ true) × (from_four_to_thirty b ≡ true) × (a ≡ b → ⊥)
unfolding may_be_set
may-be-set-parts a b h =
    let t = both (from_four_to_thirty a) (from_four_to_thirty b && not (eqb a b)) h in
    let u = both (from_four_to_thirty b) (not (eqb a b)) t.1 in
    (t.0, u.0, not-eq u.1)

-- the tests in the order of the call that makes them
module _ (a b : ℕ) where
  pub first-not : from_four_to_thirty a ≡ false → false ≡ may_be_set a b
  unfolding may_be_set
  first-not p = rw p

  module _ (p : from_four_to_thirty a ≡ true) where
    pub second-not : from_four_to_thirty b ≡ false → false ≡ may_be_set a b
    unfolding may_be_set
    second-not q = rw (p, q)

    pub both-may : from_four_to_thirty b ≡ true → not (eqb a b) ≡ may_be_set a b
    unfolding may_be_set
    both-may q = rw (p, q)

-- WHAT SETTING THEM ANSWERS AND KEEPS
module _ (s : Settings) (a b : ℕ) where
  abbrev pub with_numbers : Settings
  with_numbers = record { by_source_group = a; by_any_source = b; ranges = s.ranges }

  pub numbers-kept : SettingsRight s → SettingsRight (numbers_set s a b).settings
  unfolding numbers_set
  numbers-kept r = cond-by SettingsRight (may_be_set a b) (λ e. record { numbers = inr e; ranges = r.ranges }) (λ _. r)

  pub numbers-refused : ((numbers_set s a b).number ≡ 0 → ⊥) → (numbers_set s a b).settings ≡ s
  unfolding numbers_set
  numbers-refused n = by-test (may_be_set a b) (λ e. absurd (n (rw e))) (λ e. rw e)

  pub numbers-again : may_be_set a b ≡ true → ((numbers_set s a b).number ≡ 0) × ((numbers_set s a b).settings ≡ with_numbers)
  unfolding numbers_set
  numbers-again e = (rw e, rw e)

module _ (s : Settings) (w : List ℕ) where
  abbrev pub with_ranges : List (List ℕ) → Settings
  with_ranges l = record { by_source_group = s.by_source_group; by_any_source = s.by_any_source; ranges = l }

  pub given-kept : SettingsRight s → SettingsRight (ranges_given s w).settings
  unfolding ranges_given
  given-kept r = record { numbers = r.numbers; ranges = ranges.ranges-kept s.ranges w r.ranges }

  pub given-refused : ((ranges_given s w).number ≡ 0 → ⊥) → (ranges_given s w).settings ≡ s
  unfolding ranges_given
  given-refused n = ap with_ranges (ranges.ranges-refused s.ranges w n)

pub given-again : (s : Settings) (l : List (List ℕ)) → RangesRight l → ((ranges_given s (flat l)).number ≡ 0) × ((ranges_given s (flat l)).settings ≡ with_ranges s [] l)
unfolding ranges_given
given-again s l r = let t = ranges.ranges-again l s.ranges r in (t.0, ap (with_ranges s []) t.1)

-- the returns of the calls that set them: refused, the words stay; accepted, they are written anew
module _ (w : List ℕ) (v : ValidSettings w) where
  module _ (a b : ℕ) where
    pub numbers-told-refused : may_be_set a b ≡ false → SettingsTold (numbers_set (settings_in w) a b) algorithm_not_usable w × ValidSettings w
    unfolding numbers_set
    numbers-told-refused e = ((rw e, rw e), v)

    pub numbers-told-set : may_be_set a b ≡ true → SettingsTold (numbers_set (settings_in w) a b) 0 (set (set w 0 a) 1 b) × ValidSettings (set (set w 0 a) 1 b)
    numbers-told-set e =
        let now = words-set w v a b in
        let told = numbers-again (settings_in w) a b e in
        let is = with_numbers (settings_in w) a b in
        ((sym told.0, settings-words-in is _ v.sound.ranges now ∙ sym told.1), words-valid is _ now (record { numbers = inr e; ranges = v.sound.ranges }))

  pub ranges-told : (run : List ℕ) (n : ℕ) (y : List ℕ) → TagRangesTold (ranges_set (tag_ranges_in (take (length w - 2) (drop 2 w))) run) n y → ValidTagRanges y
      → SettingsTold (ranges_given (settings_in w) run) n (take 2 w ++ (y ++ drop (length w - 2) (drop 2 w))) × ValidSettings (take 2 w ++ (y ++ drop (length w - 2) (drop 2 w)))
  unfolding ranges_given settings_in
  ranges-told run n y o u =
      let t : TagRangesTold (ranges_set (tag_ranges_in (drop 2 w)) run) n y = rw (part-from 2 w) at o in
      let is = with_ranges (settings_in w) run (tag_ranges_in y) in
      let now = ranges-set w v y (tag_ranges_in y) u.whole in
      ((t.0, settings-words-in is _ u.sound now ∙ ap (with_ranges (settings_in w) run) t.1), words-valid is _ now (record { numbers = v.sound.numbers; ranges = u.sound }))

-- WHICH NUMBERS ARE SET
module _ (s : Settings) (a : ℕ) where
  pub zero-not-set : a ≡ 0 → false ≡ is_set s a
  unfolding is_set
  zero-not-set z = rw (eq-eqb a 0 z)

  module _ (n : a ≡ 0 → ⊥) where
    pub first-set : a ≡ s.by_source_group → true ≡ is_set s a
    unfolding is_set
    first-set e = rw (ne_eqb a 0 n, eq-eqb a s.by_source_group e)

    pub second-set : (a ≡ s.by_source_group → ⊥) → eqb a s.by_any_source ≡ is_set s a
    unfolding is_set
    second-set d = rw (ne_eqb a 0 n, ne_eqb a s.by_source_group d)

neither-set : (s : Settings) (a : ℕ) → s.by_source_group ≡ 0 → s.by_any_source ≡ 0 → is_set s a ≡ false
unfolding is_set
neither-set s a x y = rw (x, y) (go (eqb a 0))
  where
    go : (t : Bool) → (not t && (t || t)) ≡ false
    go true = refl
    go false = refl

pub is-set-none : (a : ℕ) → is_set nothing_set a ≡ false
is-set-none a = neither-set nothing_set a refl refl

either-of : (p q : Bool) → (p || q) ≡ true → (p ≡ true) ⊎ (q ≡ true)
either-of true q h = inl refl
either-of false q h = inr h

pub one_set : (s : Settings) (a : ℕ) → is_set s a ≡ true → (a ≡ s.by_source_group) ⊎ (a ≡ s.by_any_source)
unfolding is_set
one_set s a h =
    ⊎_elim (λ p. inl (eqb-true a s.by_source_group p)) (λ q. inr (eqb-true a s.by_any_source q))
    (either-of (eqb a s.by_source_group) (eqb a s.by_any_source) (both (not (eqb a 0)) (eqb a s.by_source_group || eqb a s.by_any_source) h).1)

-- a number that is set is one from 4 to 30
pub is-set-bounds : (s : Settings) → SettingsRight s → (a : ℕ) → is_set s a ≡ true → (3 < a) × (a < 31)
is-set-bounds s r a h = go r.numbers
  where
    go : ((s.by_source_group ≡ 0) × (s.by_any_source ≡ 0)) ⊎ (may_be_set s.by_source_group s.by_any_source ≡ true) → (3 < a) × (a < 31)
    go (inl (x, y)) = absurd (true-false h (neither-set s a x y))
    go (inr e) =
        let p = may-be-set-parts s.by_source_group s.by_any_source e in
        let q = one_set s a h in
        ⊎_elim (λ f. rw f (in-range-bounds s.by_source_group p.0)) (λ f. rw f (in-range-bounds s.by_any_source p.1)) q

-- so both numbers are octets
pub numbers-octets : (s : Settings) → SettingsRight s → (s.by_source_group < 256) × (s.by_any_source < 256)
numbers-octets s r = go r.numbers
  where
    go : ((s.by_source_group ≡ 0) × (s.by_any_source ≡ 0)) ⊎ (may_be_set s.by_source_group s.by_any_source ≡ true) → (s.by_source_group < 256) × (s.by_any_source < 256)
    go (inl (x, y)) = (omega arith, omega arith)
    go (inr e) =
        let p = may-be-set-parts s.by_source_group s.by_any_source e in
        (omega (arith, in-range-bounds s.by_source_group p.0), omega (arith, in-range-bounds s.by_any_source p.1))
