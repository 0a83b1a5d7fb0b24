-- One law for each turn: what the code did is the turn. Assumes nothing.
use Prim.Native.Nat.{ℕ, ◌-◌, ◌≤◌}
use native.Mathlib.Omega.{arith}
use mathlib.Core.Path.{◌≡◌, refl, ap, ◌∙◌, sym, subst}
use mathlib.Core.Bool.{Bool}
use mathlib.Core.List.{List, [], ◌∷◌}
use lib.ListN.{length, get_or, take, drop, length-drop}
use lib.Seq.{take_all}
use borrow.Author.Tests.{eq-eqb, ne_eqb}
use Rattle.octets.specs.Octets.{number_of}
use Rattle.esi.specs.Text.{TextRead, read_text}
use Rattle.route.specs.Route.{total_of}
use Rattle.layout.specs.Table.{Table}
use Rattle.table.specs.Table.{fresh_table, announced, withdrawn, Told}
use Rattle.layout.specs.Words.{table_in, Valid}
use Rattle.settings.specs.Settings.{Settings, nothing_set}
use Rattle.answers.specs.Answers.{Answer}
use Rattle.election.specs.Queries.{plain, elect_with}
use Rattle.election.proofs.Laws.{elect-none}
use Rattle.answer_lines.specs.AnswerLines.{line, read_line, query_line, Written}
use Rattle.answer_lines.proofs.Laws.{written_as}
use Rattle.payloads.specs.Payloads.{address_of, addresses_in}
use Rattle.turns.specs.declared.Phase.TheVariants.{Running, Ended}
use Rattle.turns.specs.declared.Step.{Step}
use Rattle.turns.specs.Turns.{Turn, state_in, running, text_turn, announce_turn, withdraw_turn, query_turn}
use Rattle.turns.specs.Steps.{Stepped}

-- the first four of at least four octets
pub four-front : (l : List ℕ) → 4 ≤ length l → get_or l 0 0 ∷ get_or l 1 0 ∷ get_or l 2 0 ∷ get_or l 3 0 ∷ [] ≡ take 4 l
four-front [] h = absurd (omega arith)
four-front (a ∷ []) h = absurd (omega arith)
four-front (a ∷ b ∷ []) h = absurd (omega arith)
four-front (a ∷ b ∷ c ∷ []) h = absurd (omega arith)
four-front (a ∷ b ∷ c ∷ d ∷ l) h = refl

pub take-of-all : (n : ℕ) (l : List ℕ) → length l ≡ n → take n l ≡ l
take-of-all n l h = take_all n l (omega arith)

module _ {d : List ℕ} {at n : ℕ} {e : List ℕ} where
  pub stepped-announce : (t : Table) (p : List ℕ) (k : ℕ) {m l : ℕ} {v : List ℕ} → k ≡ total_of (get_or p 20 0) → Told (announced t (take k p) (take (length p - k) (drop k p))) m l v → Valid v
      → Written d at (read_line 97 m l) n e → Stepped d at (announce_turn t p) (record { phase = Running; at = n }) v e
  unfolding announce_turn
  stepped-announce t p k {m} {l} {v} g told h w =
      let a = take-of-all (length p - k) (drop k p) (length-drop k p) in
      let q : Told (announced t (take k p) (drop k p)) m l v = subst (λ (z : List ℕ). Told (announced t (take k p) z) m l v) a told in
      rw (← g) (record { put = written_as w (rw (q.0, q.1)); next = ap running q.2; kept = h })

  pub stepped-withdraw : (t : Table) (s : Bool) (p a : List ℕ) {m : ℕ} {v : List ℕ} → a ≡ address_of s p → Told (withdrawn t a) m 0 v → Valid v
      → Written d at (line 119 m) n e → Stepped d at (withdraw_turn t s p) (record { phase = Running; at = n }) v e
  unfolding withdraw_turn
  stepped-withdraw t s p a {m} {v} g told k w =
      let q : Told (withdrawn t (address_of s p)) m 0 v = subst (λ (z : List ℕ). Told (withdrawn t z) m 0 v) g told in
      record { put = written_as w (ap (line 119) q.0); next = ap running q.2; kept = k }

  module _ (p : List ℕ) (x : TextRead) (q : x ≡ read_text p) (w : Written d at (read_line 112 x.number x.offset) n e) where
    pub stepped-end : (v : List ℕ) → Valid v → (x.number ≡ 0 → ⊥) → Stepped d at (text_turn (table_in v) p) (record { phase = Ended; at = n }) v e
    unfolding text_turn
    stepped-end v k h =
        let m = ap (λ (y : TextRead). y.number) q in
        record { put = written_as w (ap (λ (z : TextRead). read_line 112 z.number z.offset) q); next = rw (ne_eqb (read_text p).number 0 (λ z. h (m ∙ z))); kept = k }

    -- the words of the fresh table are copied
    pub stepped-begin : (t : Table) {m : ℕ} {y v : List ℕ} → x.number ≡ 0 → Told (fresh_table x.esi) m 0 y → Valid y → v ≡ y
        → Stepped d at (text_turn t p) (record { phase = Running; at = n }) v e
    unfolding text_turn
    stepped-begin t {m} {y} {v} h f k c =
        let o = ap (λ (z : TextRead). z.number) q in
        let i = ap (λ (z : TextRead). z.esi) q in
        record {
          put = written_as w (ap (λ (z : TextRead). read_line 112 z.number z.offset) q);
          next = rw (eq-eqb (read_text p).number 0 (sym o ∙ h), ← i, ← f.2) (ap (state_in Running) c);
          kept = subst Valid (sym c) k;
        }

  pub stepped-query : (v : List ℕ) (s : Bool) (p : List ℕ) (x : Answer) (tag : ℕ) (ready : List (List ℕ)) {o : Settings} → tag ≡ number_of (take 4 p) → ready ≡ addresses_in s (drop 4 p)
      → o ≡ nothing_set → x ≡ elect_with o plain (table_in v).esi (table_in v).entries tag ready → Valid v → Written d at (query_line x) n e
      → Stepped d at (query_turn (table_in v) s p) (record { phase = Running; at = n }) v e
  unfolding query_turn
  stepped-query v s p x tag ready g l m q k w =
      let i = (table_in v).esi in
      let es = (table_in v).entries in
      let none = ap (λ (y : Settings). elect_with y plain i es tag ready) m ∙ elect-none i es tag ready in
      record { put = written_as w (ap query_line (q ∙ none ∙ rw (g, l))); next = refl; kept = k }

-- the same step, said of another turn
pub stepped-as : {d : List ℕ} {at : ℕ} {u v : Turn} {r : Step} {w e : List ℕ} → Stepped d at u r w e → u ≡ v → Stepped d at v r w e
stepped-as {d} {at} {u} {v} {r} {w} {e} s q = subst (λ (x : Turn). Stepped d at x r w e) q s
