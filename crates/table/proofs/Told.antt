-- Laws of the calls over a table's words: what each return answers and leaves, and that the words stay a table's. Assumes nothing.
use Prim.Native.Nat.{ℕ, ◌*◌, ◌≤◌, ◌<◌}
use native.Mathlib.Omega.{arith}
use mathlib.Core.Path.{◌≡◌, refl, ap, ◌∙◌, sym, subst}
use mathlib.Core.Bool.{true, false, cond}
use mathlib.Core.List.{List, [], ◌∷◌, ◌++◌}
use lib.ListN.{length, get_or, set, take, drop, length-drop, replicate}
use lib.Seq.{length-take-le}
use lib.Dec.{eqb}
use Rattle.lists.specs.Lists.{Every}
use Rattle.lists.proofs.Bools.{cond-by}
use Rattle.lists.proofs.Lists.{every_in}
use Rattle.address.specs.Address.{address_key, IsAddress, is_zero}
use Rattle.address.proofs.Laws.{key-injective, length-address}
use Rattle.route.specs.Route.{route_address, route_number, Fault}
use Rattle.community.specs.declared.Election.{Election}
use Rattle.community.specs.Community.{ListRead, election_in, read_list}
use Rattle.community.proofs.Laws.{list-accepted}
use Rattle.keyed.specs.Keyed.{spliced, without_at, has, insert, remove}
use Rattle.keyed.proofs.Keyed as keyed
use Rattle.rows.specs.Rows.{column, flat, found_in}
use Rattle.std.specs.Prelude.{Ok, Err}
use Rattle.rows.proofs.Compared.{Words, words-part}
use Rattle.rows.proofs.Places.{present-at, at_lt}
use Rattle.layout.specs.Table.{Entry, entry_key, no_entry, entry_of, AddressRight, Table, table_of, WellFormed, owner_of}
use Rattle.layout.specs.Words.{attributes_of, kind_of, standing_of, entry_in, identifier_words, words_of, table_in, Octets, Valid, Packed}
use Rattle.layout.proofs.Words.{Narrow, entry-back, address-row, table-in, valid-of, narrow-entries}
use Rattle.owner.specs.Given.{Given}
use Rattle.table.specs.Table.{Change, announce_number, withdraw_number, fresh_table, announced, withdrawn, Told}
use Rattle.table.specs.Steps.{Stored, admitted}
use Rattle.table.proofs.Calls as calls

-- a step's answer, told by its number and the words of its table
stored_of : (c x : Change) (b : List ℕ) → x ≡ c → b ≡ words_of x.table → Stored c x.number b
stored_of c x b e q = (ap (λ (y : Change). y.number) e, q ∙ ap (λ (y : Change). words_of y.table) e)

-- FRESH
empty-words : (i : List ℕ) → words_of (table_of i []) ≡ replicate 385 0 ++ identifier_words i
unfolding words_of column flat
empty-words i = refl

module _ (i : List ℕ) where
  abbrev Fresh : ℕ → List ℕ → Type 0
  Fresh n b = Told (fresh_table i) n 0 b × Valid b

  -- from what the empty table got of the identifier
  pub fresh-told : (n : ℕ) (b : List ℕ) → Given i n b → Fresh n b
  unfolding fresh_table Every
  fresh-told n b (e, q, o) =
      let t = table_of (owner_of i) [] in
      let w : WellFormed t = calls.fresh_kept i in
      let f : b ≡ words_of t = q ∙ sym (empty-words (owner_of i)) in
      ((e, refl, ap table_in f ∙ table-in t w tt o), subst Valid (sym f) (valid-of t w tt o))

-- AN ENTRY and its words
pub packed-entry : (a : List ℕ) (w : ℕ) (e : Election) → Packed e w → entry_in a (w ∷ []) ≡ entry_of a e
unfolding attributes_of kind_of standing_of
packed-entry a w e p = ap (λ (v : ℕ). entry_in a (v ∷ [])) p.0 ∙ entry-back (entry_of a e) p.1

module _ (b : List ℕ) (h : Valid b) where
  abbrev t : Table
  t = table_in b

  abbrev es : List Entry
  es = t.entries

  unchanged : (c : Change) (n p : ℕ) → record { number = n; offset = p; table = t } ≡ c → Told c n p b
  unchanged c n p e = (ap (λ (y : Change). y.number) e, ap (λ (y : Change). y.offset) e, ap (λ (y : Change). y.table) e)

  -- AN ENTRY that passed the checks before the last
  module _ (a : List ℕ) (w i : ℕ) (e : Election) (p : Packed e w) where
    -- the address that is found stands there already
    same_address : IsAddress a → Words a → Words b → found_in entry_key (address_key a) es ≡ Ok i → (get_or es i no_entry).address ≡ a
    same_address g u v f =
        let r = (get_or es i no_entry).address in
        let l = at_lt entry_key (address_key a) es 1 no_entry h.sound.rising i f in
        let n : length r ≡ length a = length-address r (every_in AddressRight es i no_entry h.sound.addresses l).0 ∙ sym (length-address a g) in
        key-injective r a n (rw (← address-row b h i l) (words-part 5 (i * 5) b v)) u (present-at entry_key (address_key a) es 1 no_entry h.sound.rising i f).1

    same-entry : IsAddress a → Words a → Words b → found_in entry_key (address_key a) es ≡ Ok i → entry_in (get_or es i no_entry).address (w ∷ []) ≡ entry_of a e
    same-entry g u v f = ap (λ (x : List ℕ). entry_in x (w ∷ [])) (same_address g u v f) ∙ packed-entry a w e p

    pub told_at : IsAddress a → Words a → Words b → found_in entry_key (address_key a) es ≡ Ok i → (x : List ℕ) → x ≡ words_of (table_of t.esi (set es i (entry_in (get_or es i no_entry).address (w ∷ [])))) → Stored (admitted t (entry_of a e)) 0 x
    told_at g u v f x q =
        stored_of (admitted t (entry_of a e)) _ x (calls.admitted-at t h.sound (entry_of a e) i f) (q ∙ ap (λ (y : Entry). words_of (table_of t.esi (set es i y))) (same-entry g u v f))

    pub told-new : found_in entry_key (address_key a) es ≡ Err i → length es < 64 → (x : List ℕ) → x ≡ words_of (table_of t.esi (spliced es i (entry_in a (w ∷ [])))) → Stored (admitted t (entry_of a e)) 0 x
    told-new f s x q =
        stored_of (admitted t (entry_of a e)) _ x (calls.admitted-new t h.sound (entry_of a e) i f s) (q ∙ ap (λ (y : Entry). words_of (table_of t.esi (spliced es i y))) (packed-entry a w e p))

    pub told-full : found_in entry_key (address_key a) es ≡ Err i → 64 ≤ length es → Stored (admitted t (entry_of a e)) 8 b
    told-full f s = stored_of (admitted t (entry_of a e)) _ b (calls.admitted-full t h.sound (entry_of a e) i f s) h.whole

  -- THE WORDS stay a table's
  stored-valid : (c : Change) (n : ℕ) (x : List ℕ) → Stored c n x → WellFormed c.table → Every Narrow c.table.entries → c.table.esi ≡ t.esi
      → (table_in x ≡ c.table) × Valid x
  stored-valid c n x o k m e =
      let i : Octets c.table.esi = subst Octets (sym e) h.octets in
      (ap table_in o.1 ∙ table-in c.table k m i, subst Valid (sym o.1) (valid-of c.table k m i))

  narrow-change : (n : ℕ) (l : List Entry) → Every Narrow l → Every Narrow (cond (eqb n 0) (table_of t.esi l) t).entries
  narrow-change n l m = cond-by (λ (x : Table). Every Narrow x.entries) (eqb n 0) (λ _. m) (λ _. narrow-entries b h)

  same-esi : (n : ℕ) (l : List Entry) → (cond (eqb n 0) (table_of t.esi l) t).esi ≡ t.esi
  same-esi n l = cond-by (λ (x : Table). x.esi ≡ t.esi) (eqb n 0) (λ _. refl) (λ _. refl)

  -- WITHDRAWALS
  module _ (a : List ℕ) where
    abbrev Withdrawn : ℕ → List ℕ → Type 0
    Withdrawn n x = Told (withdrawn t a) n 0 x × Valid x

    withdrawn-valid : (n : ℕ) (x : List ℕ) → Stored (withdrawn t a) n x → Withdrawn n x
    unfolding withdrawn
    withdrawn-valid n x o =
        let k = stored-valid (withdrawn t a) n x o (calls.withdrawn-kept t h.sound a)
        (narrow-change (withdraw_number a (has entry_key (address_key a) es)) (remove entry_key (address_key a) es) (keyed.every-remove entry_key Narrow (address_key a) es (narrow-entries b h)))
        (same-esi (withdraw_number a (has entry_key (address_key a) es)) (remove entry_key (address_key a) es)) in
        ((o.0, refl, k.0), k.1)

    pub withdrawn-zero : is_zero a ≡ true → Withdrawn 6 b
    withdrawn-zero z = (unchanged (withdrawn t a) 6 0 (calls.withdrawn-zero t h.sound a z), h)

    pub withdrawn-missing : (i : ℕ) → is_zero a ≡ false → found_in entry_key (address_key a) es ≡ Err i → Withdrawn 9 b
    withdrawn-missing i z f = (unchanged (withdrawn t a) 9 0 (calls.withdrawn-missing t h.sound a i z f), h)

    pub withdrawn-at : (i : ℕ) → is_zero a ≡ false → found_in entry_key (address_key a) es ≡ Ok i → (x : List ℕ) → x ≡ words_of (table_of t.esi (without_at es i)) → Withdrawn 0 x
    withdrawn-at i z f x q = withdrawn-valid 0 x (stored_of (withdrawn t a) _ x (calls.withdrawn-at t h.sound a i z f) q)

  -- ANNOUNCEMENTS
  module _ (r c : List ℕ) where
    abbrev Announced : ℕ → ℕ → List ℕ → Type 0
    Announced n p x = Told (announced t r c) n p x × (Valid x × Fault r (route_number r) p)

    announced-fault : (n p : ℕ) (x : List ℕ) → Told (announced t r c) n p x → Fault r (route_number r) p
    announced-fault n p x o = subst (Fault r (route_number r)) (sym o.1) (calls.announced-fault t h.sound r c)

    -- the table is left as it was
    pub announced-refused : (n p : ℕ) → record { number = n; offset = p; table = t } ≡ announced t r c → Announced n p b
    announced-refused n p e = let o = unchanged (announced t r c) n p e in (o, (h, announced-fault n p b o))

    abbrev number : ℕ
    number = announce_number t.esi r c (has entry_key (address_key (route_address r)) es) (length es)

    abbrev added : List Entry
    added = insert entry_key (entry_of (route_address r) (election_in c)) es

    pub announced-admitted : (a : List ℕ) (n : ℕ) (e : Election) (x : List ℕ) → admitted t (entry_of a e) ≡ announced t r c → 0 ≡ (admitted t (entry_of a e)).offset → election_in c ≡ e → Stored (admitted t (entry_of a e)) n x → e.preference < 65536 → Announced n 0 x
    unfolding announced
    announced-admitted a n e x f z g o m =
        let s : Stored (announced t r c) n x = subst (λ (y : Change). Stored y n x) f o in
        let q : (election_in c).preference < 65536 = rw g m in
        let k =
        stored-valid (announced t r c) n x s (calls.announced-kept t h.sound r c)
        (narrow-change number added (keyed.every-insert entry_key Narrow (entry_of (route_address r) (election_in c)) es q (narrow-entries b h)))
        (same-esi number added) in
        let told : Told (announced t r c) n 0 x = (s.0, z ∙ ap (λ (y : Change). y.offset) f, k.0) in
        (told, (k.1, announced-fault n 0 x told))

-- what a list that was read says, and the identifier's part of a route
pub list-says : (c : List ℕ) (l : ListRead) → l ≡ read_list c → l.number ≡ 0 → election_in c ≡ l.election
list-says c l q n = sym (ap (λ (y : ListRead). y.election) q ∙ (list-accepted c (sym (ap (λ (y : ListRead). y.number) q) ∙ n)).1)

pub length_part : (r : List ℕ) → 25 ≤ length r → length (take 10 (drop 10 r)) ≡ 10
length_part r h = length-take-le 10 (drop 10 r) (omega (arith, length-drop 10 r))

pub admitted-offset : (t : Table) (e : Entry) → 0 ≡ (admitted t e).offset
unfolding admitted
admitted-offset t e = refl

-- what shows what `withdraw` answers where it refuses, and that the place found is one of the entries
pub ruleset withdrawing = (withdrawn-zero, withdrawn-missing, at_lt)
