-- The backup takes over: it is a candidate that stays, and of those that stay none is better. Assumes nothing.
use Prim.Native.Nat.{ℕ, ◌≤◌}
use native.Mathlib.Omega.{arith}
use mathlib.Core.Path.{◌≡◌, refl, ap, sym, ◌∙◌, subst}
use mathlib.Core.Bool.{Bool, true, false, cond}
use mathlib.Core.List.{List, Memᴰ}
use lib.ListN.{length}
use lib.Dec.{ltb, eqb}
use borrow.Author.Tests.{eq-eqb}
use Rattle.lists.specs.Checks.{first_refusal}
use Rattle.lists.proofs.Bools.{true-false}
use Rattle.lists.proofs.Lists.{every-mem}
use Rattle.address.specs.Address.{family_of, address_words}
use Rattle.keyed.specs.Keyed.{has, remove}
use Rattle.keyed.proofs.Order.{has-mem, rising-distinct}
use Rattle.keyed.proofs.Journal.{has-removed}
use Rattle.layout.specs.Table.{Entry, entry_key, Table, WellFormed, AddressRight}
use Rattle.table.specs.Table.{withdraw_number, withdrawn}
use Rattle.table.proofs.Calls.{withdrawn-kept}
use Rattle.settings.specs.Settings.{Settings, SettingsRight}
use Rattle.segment_state.specs.State.{Segment}
use Rattle.agreement.specs.Agreement.{in_use_with}
use Rattle.agreement.specs.declared.InUse.{InUse}
use Rattle.choice.proofs.Criteria.{unique-rising}
use Rattle.ready.specs.Ready.{on_list, candidates, candidate_set}
use Rattle.circuit_ready.specs.Routers.{ready_routers}
use Rattle.circuit_ready.proofs.Laws.{length-routers}
use Rattle.winner.specs.Winner.{elected}
use Rattle.answers.specs.Answers.{Answer, Method, answer_by}
use Rattle.answers.proofs.Laws.{names-by, elected-in, forwarder-by}
use Rattle.tags.specs.Tags.{reserved_tag}
use Rattle.election.specs.Queries.{plain, method_for, method_of, candidates_of}
use Rattle.election.proofs.Laws.{passes}
use Rattle.backup.specs.Backup.{Backup, refused_backup, backup_with, SecondInLine}
use Rattle.circuit_election.specs.Over.{elect_over}
use Rattle.forwarders.specs.Forwarders.{elect_in, Names}
use Rattle.bystander.proofs.Members.{candidate-of, candidate-in, eligible-alike, on-routers}
use Rattle.bystander.proofs.Fewer.{in-use-fewer, method-some, checks-passed, named_some}
use Rattle.bystander.proofs.Bystander.{left-owner, left-of, left_in}
use Rattle.one_forwarder.proofs.OneForwarder.{once}
use Rattle.takeover.specs.Takeover.{without_router, NamesBackup, TakesOver, TakesOverBy}

-- A BACKUP IS NAMED only where another algorithm than 0 is in use
backup-agreed : (s : Settings) (i : List ℕ) (l : List Entry) (tag : ℕ) (ready : List (List ℕ)) → (backup_with s i l tag ready).number ≡ 0 → (in_use_with s l).algorithm ≡ 0 → ⊥
unfolding backup_with
backup-agreed s i l tag ready h z = go (reserved_tag tag) (ltb 64 (length ready)) (eqb (length l) 0) (rw (eq-eqb (in_use_with s l).algorithm 0 z) at h)
  where
    go : (a b c : Bool) → (cond a (refused_backup 10) (cond b (refused_backup 11) (cond c (refused_backup 12) (refused_backup 15)))).number ≡ 0 → ⊥
    go true b c h = omega (arith, h)
    go false true c h = omega (arith, h)
    go false false true h = omega (arith, h)
    go false false false h = omega (arith, h)

-- WHO IS WITHDRAWN is gone
module _ (t : Table) (w : WellFormed t) (e : Entry) (m : Memᴰ e t.entries) where
  accepted : (withdrawn t e.address).table.entries ≡ remove entry_key (entry_key e) t.entries
  unfolding withdrawn withdraw_number first_refusal
  accepted = rw ((every-mem AddressRight t.entries w.addresses e m).1, has-mem entry_key m)

  gone : (x : Entry) → Memᴰ x (withdrawn t e.address).table.entries → entry_key x ≡ entry_key e → ⊥
  gone x h k =
      let there = subst (λ (l : List Entry). has entry_key (entry_key x) l ≡ true) accepted (has-mem entry_key h) in
      true-false (subst (λ (n : ℕ). has entry_key n (remove entry_key (entry_key e) t.entries) ≡ true) k there)
      (has-removed entry_key (entry_key e) t.entries (rising-distinct entry_key t.entries 1 w.rising))

-- THE THEOREM
-- The list of the ready after the withdrawal, `others`, has the same of those that are left as the one before it.
taken-over : (s : Segment) → WellFormed s.table → SettingsRight s.settings → (tag : ℕ) (ready : List (List ℕ)) (r : Backup)
    → r ≡ backup_with s.settings s.table.esi s.table.entries tag ready
    → (r.number ≡ 0 → SecondInLine (method_of s.settings plain s.table.esi s.table.entries tag) (candidates_of s.settings s.table.entries ready) tag r)
    → r.number ≡ 0 → (e : Entry) → Memᴰ e s.table.entries → Names (elect_in s plain tag ready) e.address
    → (others : List (List ℕ)) → (length ready ≤ 64 → length others ≤ 64)
    → ((x : Entry) → Memᴰ x (withdrawn s.table e.address).table.entries → on_list others x.address ≡ on_list ready x.address)
    → NamesBackup (elect_in (without_router s e.address) plain tag others) r
taken-over s w g tag ready r p second z e me ne others short alike =
    let t : Table = s.table in
    let l : List Entry = t.entries in
    let st : Settings = s.settings in
    let used : InUse = in_use_with st l in
    let m : Method = method_of st plain t.esi l tag in
    let cs : List Entry = candidates_of st l ready in
    let set : ℕ = candidate_set used.ac_df ready l in
    let n = backup-agreed st t.esi l tag ready (ap (λ (x : Backup). x.number) (sym p) ∙ z) in
    let c = checks-passed st plain t.esi l tag ready ne.0 in
    let first : elect_in s plain tag ready ≡ answer_by m cs set tag = passes st plain t.esi l tag ready c.0 c.1 c.2 in
    let y = names-by m cs set tag (ap (λ (x : Answer). x.number) (sym first) ∙ ne.0) in
    let f : Entry = elected m.algorithm tag m.digest cs in
    let fc = candidate-of used.ac_df ready l (elected-in m.algorithm tag m.digest cs y.0) in
    let alone = (once s w plain tag ready refl).one c.0 c.1 c.2 (λ q. y.0 (ap length q)) in
    let same : e ≡ f = alone.only e me ne ∙ sym (alone.only f fc.0 (ne.0, ap (λ (x : Answer). x.family) (first ∙ y.1), ap (λ (x : Answer). x.address) (first ∙ y.1))) in
    let sec = second z in
    let b : Entry = sec.entry in
    let bc = candidate-of used.ac_df ready l sec.candidate in
    let a : List ℕ = e.address in
    let u : Table = (withdrawn t a).table in
    let bu : Memᴰ b u.entries = left_in t a b bc.0 (λ q. sec.other (q ∙ ap entry_key same)) in
    let cu : List Entry = candidates used.ac_df others u.entries in
    let su : ℕ = candidate_set used.ac_df others u.entries in
    let bin : Memᴰ b cu = candidate-in used.ac_df others u.entries bu (eligible-alike used.ac_df ready others b (alike b bu) ∙ bc.1) in
    let zu = named_some m cu su tag b bin in
    let h = forwarder-by u (withdrawn-kept t w a) used.ac_df others m tag zu in
    let some = method-some st g plain used.algorithm tag t.esi n in
    let eb : b ≡ h.entry = h.only some b bin (λ x k.
    let kx = candidate-of used.ac_df others u.entries k in
    sec.top x (candidate-in used.ac_df ready l (left-of t a x kx.0) (sym (eligible-alike used.ac_df ready others x (alike x kx.0)) ∙ kx.1)) (λ q. gone t w e me x kx.0 (q ∙ ap entry_key (sym same)))) in
    let after : elect_in (record { table = u; settings = st }) plain tag others ≡ answer_by m cu su tag =
    passes st plain u.esi u.entries tag others c.0 (short c.1) c.2
    ∙ ap (λ (x : InUse). answer_by (method_for st plain x.algorithm tag u.esi) (candidates x.ac_df others u.entries) (candidate_set x.ac_df others u.entries) tag) (in-use-fewer st l u.entries n (left-of t a) b bu)
    ∙ ap (λ (i : List ℕ). answer_by (method_for st plain used.algorithm tag i) cu su tag) (left-owner t a) in (
      ap (λ (x : Answer). x.number) after ∙ zu,
      ap (λ (x : Answer). x.family) after ∙ h.family ∙ ap (λ (x : Entry). family_of x.address) (sym eb) ∙ sym sec.family,
      ap (λ (x : Answer). x.address) after ∙ h.address ∙ ap (λ (x : Entry). address_words x.address) (sym eb) ∙ sym sec.address,
    )

module _ (s : Segment) (w : WellFormed s.table) (g : SettingsRight s.settings) (tag : ℕ) (r : Backup) where
  pub takes-over : (ready : List (List ℕ)) → r ≡ backup_with s.settings s.table.esi s.table.entries tag ready
      → (r.number ≡ 0 → SecondInLine (method_of s.settings plain s.table.esi s.table.entries tag) (candidates_of s.settings s.table.entries ready) tag r)
      → TakesOver s tag ready r
  takes-over ready p second z e me ne = taken-over s w g tag ready r p second z e me ne ready (λ h. h) (λ x m. refl)

  pub takes-over-by : (c : List (List ℕ)) → r ≡ backup_with s.settings s.table.esi s.table.entries tag (ready_routers c tag s.table.entries)
      → (r.number ≡ 0 → SecondInLine (method_of s.settings plain s.table.esi s.table.entries tag) (candidates_of s.settings s.table.entries (ready_routers c tag s.table.entries)) tag r)
      → TakesOverBy s c tag r
  unfolding elect_over
  takes-over-by c p second z e me ne =
      let t : Table = s.table in
      let u : Table = (withdrawn t e.address).table in
      let v = withdrawn-kept t w e.address in
      taken-over s w g tag (ready_routers c tag t.entries) r p second z e me ne (ready_routers c tag u.entries)
      (λ _. omega (arith, length-routers c tag u.entries, v.short))
      (λ x m.
      on-routers c tag u.entries (unique-rising entry_key 1 u.entries v.rising) x m
      ∙ sym (on-routers c tag t.entries (unique-rising entry_key 1 t.entries w.rising) x (left-of t e.address x m)))
