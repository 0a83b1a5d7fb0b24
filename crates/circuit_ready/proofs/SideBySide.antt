-- Routes that stand side by side: up to a row of a kind and tag all rows are from where these start, and where a row's kind, tag and address are those of a route, the route stands. Assumes nothing.
use Prim.Native.Nat.{ℕ, ◌+◌, ◌-◌, ◌*◌, ◌/◌, ◌%◌, ◌^◌, ◌≤◌, ◌<◌}
use native.Mathlib.Nat.{suc-mul, mul-le-mul_right, le_of_lt}
use native.Mathlib.Omega.{arith}
use mathlib.Core.Path.{◌≡◌, refl, ap, ◌∙◌, sym, subst}
use mathlib.Core.Bool.{true}
use mathlib.Core.List.{List, [], ◌∷◌, ◌++◌}
use mathlib.Core.Logic.{◌⊎◌, inl, inr, ⊎_elim}
use lib.ListN.{length, get_or, take, drop, length-drop}
use lib.Seq.{take-add, take-take, take_all, drop-drop, length-take-le}
use borrow.Author.Tests.{eq-eqb}
use Rattle.lists.proofs.Lists.{every_in}
use Rattle.lists.proofs.Numbers.{either, ordered}
use Rattle.keyed.specs.Keyed.{Rising, rank}
use Rattle.keyed.proofs.Keyed as keyed
use Rattle.address.specs.Address.{IsAddress, ipv4, ipv6, family_of}
use Rattle.address.proofs.Laws.{length-address}
use Rattle.rows.specs.Rows.{row_key, head_key}
use Rattle.rows.proofs.Compared.{Words, words-part, key-lt, key-append}
use Rattle.layout.specs.Table.{no_entry, AddressRight}
use Rattle.layout.specs.Words.{table_in, Valid}
use Rattle.layout.proofs.Words.{address-row}
use Rattle.layout.proofs.Addresses.{words-in, family-either, families-rise}
use Rattle.circuit_layout.specs.Circuits.{AdRoute, ad_row, per_segment, per_instance, circuits_in, ValidCircuits}
use Rattle.circuit_layout.specs.declared.Scope.{Scope}
use Rattle.circuit_layout.specs.declared.Scope.TheVariants.{Segment, Instance}
use Rattle.circuit_layout.proofs.Words.{short, length-valid, route-row}
use Rattle.circuit_ready.specs.Routers.{stands, ready_for}
use Rattle.circuit_ready.specs.Steps.{HeadAt, StartsAt, SameWords}
use Rattle.circuit_ready.proofs.Stands.{parts-decide, at-stands, ready-stands}

abbrev base : ℕ
base = 4294967296

-- the high digits of numbers that rise do not fall
high-rises : (p m n u v : ℕ) → v < p → m * p + u ≤ n * p + v → m ≤ n
high-rises p m n u v h l =
    either n m
    (λ g. absurd (omega (arith, suc-mul n p, mul-le-mul_right p g)))
    (λ g. g)

under-key : (p m n v key : ℕ) → v < p → m * p ≤ key → key ≡ n * p + v → m ≤ n
under-key p m n v key h l e = high-rises p m n 0 v h (omega (arith, l, e))

two-key : (x y : ℕ) → row_key (x ∷ y ∷ []) ≡ x * 4294967296 + y
unfolding row_key
two-key x y = omega arith

-- the row at the place of a key is not below it
at-rank : (m : ℕ) (l : List (List ℕ)) (i : ℕ) → Rising row_key 0 l → i ≡ rank row_key m l → i < length l → m ≤ row_key (get_or l i [])
at-rank m l i r e h = either (row_key (get_or l i [])) m (λ g. absurd (omega (arith, e, keyed.rank-above row_key m l 0 i [] r h g))) (λ g. g)

-- an IPv4 address is told by its first two words
four_same : (r s : List ℕ) → IsAddress r → IsAddress s → Words r → get_or r 0 0 ≡ 4 → row_key (take 2 s) ≡ row_key (take 2 r) → s ≡ r
unfolding row_key
four_same r s (ipv4 x e) (ipv4 y d) q f k = d ∙ ap (λ (z : ℕ). 4 ∷ z ∷ 0 ∷ 0 ∷ 0 ∷ []) (omega (arith, rw (e, d) at k)) ∙ sym e
four_same r s (ipv4 x e) (ipv6 a b c g d) q f k = let l = q 1 in absurd (omega (arith, rw (e, d) at k, rw e at l))
four_same r s (ipv6 a b c g e) h q f k = absurd (omega (arith, rw e at f))

-- what follows two words, and these
after_two : (x y : List ℕ) (k t : ℕ) (a : List ℕ) → length x ≡ 2 → x ++ y ≡ k ∷ t ∷ a → y ≡ a
after_two [] y k t a n e = absurd (omega arith)
after_two (u ∷ []) y k t a n e = absurd (omega arith)
after_two (u ∷ v ∷ []) y k t a n e = ap (drop 2) e
after_two (u ∷ v ∷ w ∷ x) y k t a n e = absurd (omega arith)

first_two : (x y : List ℕ) (k t : ℕ) (a : List ℕ) → length x ≡ 2 → x ++ y ≡ k ∷ t ∷ a → x ≡ k ∷ t ∷ []
first_two [] y k t a n e = absurd (omega arith)
first_two (u ∷ []) y k t a n e = absurd (omega arith)
first_two (u ∷ v ∷ []) y k t a n e = ap (take 2) e
first_two (u ∷ v ∷ w ∷ x) y k t a n e = absurd (omega arith)

-- ROWS of a table of A-D routes, each in two parts: its kind and tag, and its address
module _ (b : List ℕ) (h : ValidCircuits b) (o : Words b) where
  abbrev routes : List (List ℕ)
  routes = circuits_in b

  abbrev pub head_of : ℕ → List ℕ
  head_of i = take 2 (drop (i * 7) b)

  abbrev pub address_in : ℕ → List ℕ
  address_in i = take 5 (drop (i * 7 + 2) b)

  module _ (i : ℕ) (l : i < length routes) where
    in_parts : get_or routes i [] ≡ head_of i ++ address_in i
    in_parts = sym (route-row b h i l) ∙ take-add 2 5 (drop (i * 7) b) ∙ ap (λ (w : List ℕ). head_of i ++ take 5 w) (drop-drop 2 (i * 7) b)

    two-words : length (head_of i) ≡ 2
    two-words = length-take-le 2 (drop (i * 7) b) (simp length-drop (omega (arith, short b h, length-valid b h)))

    five-words : length (address_in i) ≡ 5
    five-words = length-take-le 5 (drop (i * 7 + 2) b) (simp length-drop (omega (arith, short b h, length-valid b h)))

    key-parts : row_key (get_or routes i []) ≡ row_key (head_of i) * base ^ 5 + row_key (address_in i)
    key-parts = ap row_key in_parts ∙ key-append (head_of i) (address_in i) ∙ ap (λ (n : ℕ). row_key (head_of i) * base ^ n + row_key (address_in i)) five-words

    low-lt : row_key (address_in i) < base ^ 5
    low-lt = rw five-words at (key-lt (address_in i) (words-part 5 (i * 7 + 2) b o))

    address-there : IsAddress (address_in i)
    address-there = let r = every_in AdRoute routes i [] h.sound.routes l in by r.scope r.address r.row r.right
      where
        by : (s : Scope) (a : List ℕ) → get_or routes i [] ≡ ad_row s a → IsAddress a → IsAddress (address_in i)
        by Segment a e g = subst IsAddress (sym (after_two (head_of i) (address_in i) 1 0 a two-words (sym in_parts ∙ e))) g
        by (Instance tag) a e g = subst IsAddress (sym (after_two (head_of i) (address_in i) 2 tag a two-words (sym in_parts ∙ e))) g

  heads-rise : (i j : ℕ) → i < j → j < length routes → row_key (head_of i) ≤ row_key (head_of j)
  heads-rise i j g l =
      let m : i < length routes = omega arith in
      high-rises (base ^ 5) (row_key (head_of i)) (row_key (head_of j)) (row_key (address_in i)) (row_key (address_in j)) (low-lt j l)
      (rw (← key-parts i m, ← key-parts j l) (le_of_lt (keyed.rising-pairs row_key routes 0 [] h.sound.rising i j g l)))

  heads-up : (i j : ℕ) → i ≤ j → j < length routes → row_key (head_of i) ≤ row_key (head_of j)
  heads-up i j g l = ordered i j (λ m. heads-rise i j m l) (λ e. rw e (omega arith)) (λ m. absurd (omega arith))

  -- from a row that does not start below a kind and tag to one of them all are
  pub heads-between : (i k j x : ℕ) → i ≤ k → k ≤ j → j < length routes → x ≤ row_key (head_of i) → row_key (head_of j) ≡ x → row_key (head_of k) ≡ x
  heads-between i k j x p q l e f = omega (arith, heads-up i k p (omega arith), heads-up k j q l, e, f)

  -- no row starts below the kind per segment
  head-least : (i : ℕ) → i < length routes → row_key (1 ∷ 0 ∷ []) ≤ row_key (head_of i)
  unfolding row_key
  head-least i l = let r = every_in AdRoute routes i [] h.sound.routes l in by r.scope r.address r.row
    where
      by : (s : Scope) (a : List ℕ) → get_or routes i [] ≡ ad_row s a → row_key (1 ∷ 0 ∷ []) ≤ row_key (head_of i)
      by Segment a e = omega (arith, ap row_key (first_two (head_of i) (address_in i) 1 0 a (two-words i l) (sym (in_parts i l) ∙ e)))
      by (Instance tag) a e = omega (arith, ap row_key (first_two (head_of i) (address_in i) 2 tag a (two-words i l) (sym (in_parts i l) ∙ e)))

  -- where those of a kind and tag would start, no row does below them
  not-below : (k t i : ℕ) → i ≡ rank row_key (head_key 7 (k * base + t)) routes → i < length routes → StartsAt b (i * 7) k t
  unfolding head_key
  not-below k t i e l =
      rw (two-key k t) (under-key (base ^ 5) (k * base + t) (row_key (head_of i)) (row_key (address_in i)) (row_key (get_or routes i [])) (low-lt i l) (at-rank (head_key 7 (k * base + t)) routes i h.sound.rising e l) (key-parts i l))

  pub tag-starts : (k t w : ℕ) → w ≡ rank row_key (head_key 7 (k * base + t)) routes * 7 → rank row_key (head_key 7 (k * base + t)) routes < length routes → StartsAt b w k t
  tag-starts k t w e l = rw e (not-below k t _ refl l)

  -- a row whose kind, tag and address are those of a route is that route. Of an IPv4 address two words are enough
  pub side-stands : (i k t w : ℕ) (a : List ℕ) → i < length routes → IsAddress a → Words a → row_key (head_of i) ≡ row_key (k ∷ t ∷ []) → (w ≡ 5) ⊎ ((w ≡ 2) × (get_or a 0 0 ≡ 4))
      → row_key (take w (drop (i * 7 + 2) b)) ≡ row_key (take w a) → stands routes (k ∷ t ∷ a) ≡ true
  side-stands i k t w a l g q e f r =
      let whole : row_key (take (length a) (drop (i * 7 + 2) b)) ≡ row_key a = ap (λ (n : ℕ). row_key (take n (drop (i * 7 + 2) b))) (length-address a g) ∙ by f r in
      (at-stands b h i (k ∷ t ∷ a) (parts-decide b h i (i * 7) refl l k t a g o q ∙ rw (eq-eqb _ _ e, eq-eqb _ _ whole))).1
    where
      by : (w ≡ 5) ⊎ ((w ≡ 2) × (get_or a 0 0 ≡ 4)) → row_key (take w (drop (i * 7 + 2) b)) ≡ row_key (take w a) → row_key (address_in i) ≡ row_key a
      by (inl z) r = (rw z at r) ∙ ap row_key (take_all 5 a (omega (arith, length-address a g)))
      by (inr (z, four)) r =
          ap row_key (four_same a (address_in i) g (address-there i l) q four (ap row_key (take-take 2 5 (drop (i * 7 + 2) b) (omega arith)) ∙ (rw z at r)))

-- ALL ROUTERS of a route table, which are n, whose routes stand side by side: those per segment from the first row on, those per instance of a tag from word s on
module _ (t : List ℕ) (v : Valid t) (p : Words t) (b : List ℕ) (h : ValidCircuits b) (o : Words b) (n s tag : ℕ) (count : n ≡ length (table_in t).entries) (some : 0 < n)
    (starts : s % 7 ≡ 0) (room : s / 7 + n ≤ length (circuits_in b)) where
  abbrev address_at : ℕ → List ℕ
  address_at i = (get_or (table_in t).entries i no_entry).address

  -- where the last router's address is an IPv4 one, all are
  all-four : family_of (address_at (n - 1)) ≡ 4 → (i : ℕ) → i < n → family_of (address_at i) ≡ 4
  all-four f i l =
      ordered i (n - 1)
      (λ g. let rise = families-rise t v p i (n - 1) g (omega (arith, count)) in ⊎_elim (λ e. e) (λ e. absurd (omega (arith, e, f, rise))) (family-either t v i (omega (arith, count))))
      (λ e. rw e f)
      (λ g. absurd (omega arith))

  module _ (w : ℕ) (words : (w ≡ 5) ⊎ ((w ≡ 2) × (family_of (address_at (n - 1)) ≡ 4))) (segments : HeadAt b ((n - 1) * 7) 1 0)
      (begins : StartsAt b s 2 tag) (instances : HeadAt b (s + (n - 1) * 7) 2 tag)
      (same : (i : ℕ) → i < n → SameWords w t (i * 5) b (i * 7 + 2) × SameWords w t (i * 5) b (s + (i * 7 + 2))) (i : ℕ) (l : i < n) where
    there : i < length (table_in t).entries
    there = omega (arith, count)

    is_address : IsAddress (address_at i)
    is_address = (every_in AddressRight (table_in t).entries i no_entry v.sound.addresses there).0

    enough : (w ≡ 5) ⊎ ((w ≡ 2) × (get_or (address_at i) 0 0 ≡ 4))
    unfolding family_of
    enough = ⊎_elim (λ e. inl e) (λ e. inr (e.0, all-four e.1 i l)) words

    compared : (q : ℕ) → SameWords w t (i * 5) b q → row_key (take w (drop q b)) ≡ row_key (take w (address_at i))
    compared q e =
        let short : w ≤ 5 = ⊎_elim (λ z. omega (arith, z)) (λ z. omega (arith, z.0)) words in
        e ∙ ap row_key (sym (take-take w 5 (drop (i * 5) t) short) ∙ ap (take w) (address-row t v i there))

    per-segment : stands (circuits_in b) (per_segment (address_at i)) ≡ true
    per-segment =
        let head = heads-between b h o 0 i (n - 1) _ (omega arith) (omega arith) (omega (arith, room, some)) (head-least b h o 0 (omega (arith, room, some))) segments in
        side-stands b h o i 1 0 w (address_at i) (omega (arith, room)) is_address (words-in t v i there p) head enough (compared (i * 7 + 2) (same i l).0)

    per-instance : stands (circuits_in b) (per_instance tag (address_at i)) ≡ true
    per-instance =
        let first : s / 7 * 7 ≡ s = omega (arith, starts) in
        let last : (s / 7 + (n - 1)) * 7 ≡ s + (n - 1) * 7 = omega (arith, starts) in
        let here : (s / 7 + i) * 7 + 2 ≡ s + (i * 7 + 2) = omega (arith, starts) in
        let head = heads-between b h o (s / 7) (s / 7 + i) (s / 7 + (n - 1)) _ (omega arith) (omega arith) (omega (arith, room, some))
        (rw first begins) (ap (λ (k : ℕ). row_key (take 2 (drop k b))) last ∙ instances) in
        side-stands b h o (s / 7 + i) 2 tag w (address_at i) (omega (arith, room)) is_address (words-in t v i there p) head enough
        (ap (λ (k : ℕ). row_key (take w (drop k b))) here ∙ compared (s + (i * 7 + 2)) (same i l).1)

    pub all-stand : ready_for (circuits_in b) tag (address_at i) ≡ true
    all-stand = sym (ready-stands (circuits_in b) tag (address_at i) {p = true} {q = true} (sym per-segment) (sym per-instance))
