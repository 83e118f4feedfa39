-- The int that all instructions store which may have written a local variable last, by what they do.
use Rattle.std.proofs.Common.{◌≡◌, ◌≢◌, ℕ, ℤ, true, false, List, [], ◌∷◌, get_or, All, Contains, Option, Some, None, refl, sym, ap, ◌∙◌, subst, inl, inr}
use Rattle.std.proofs.lemmas.Bool.{false≢true}
use Rattle.std.proofs.lemmas.List.Elements.{All-contains, Contains-get_or}
use Rattle.lists.specs.Members.{cons_cases, nil_contains}
use Rattle.lists.proofs.Lemmas.{none≢some, some_same}
use Rattle.bytecode_model.specs.Program.{Program}
use Rattle.bytecode_model.specs.Rows as rows
use Rattle.bytecode_model.specs.Types.{IntType, Numbers}
use Rattle.method_flow.specs.Nodes.{Node, IsEdge, IsReached}
use Rattle.code_lines.specs.Lines.{IsLine, IsNamed}
use Rattle.code_lines.specs.Laws.{LinesAreOne}
use Rattle.loop_rules.specs.Further.Known.{Known, Pushes, Stores}
use Rattle.loop_rules.specs.Further.Known.Stores.{stores}
use Rattle.loop_rules.specs.Further.Writing.{MayBeLast}
use Rattle.loop_rules.specs.Further.Last.{AreLastWrites}
use Rattle.loop_rules.specs.declared.further.writes.LastWrites.{LastWrites}
use Rattle.loop_rules.specs.Further.Laws.{LastWritesExist, LastWritesWrite, PushedAreOne}
use Rattle.loop_acts.specs.Rules.{Rules, further}
use Rattle.loop_acts.specs.declared.effects.Act.{Act}
use Rattle.loop_acts.specs.Acts.{act_at, written}
use Rattle.loop_acts.specs.Writing.{IsOnly, IsStoredByAll, StoresAt, stored_by}
use Rattle.loop_finder.specs.Counting.{Body}
use Rattle.loop_finder.specs.Beginning.{AllStore, IsBodyOf}
use Rattle.loop_finder.proofs.Meeting.{store_is, stored_is, writes_at}
use Rattle.loop_finder.proofs.SetBefore.{stored_cases}

-- the lines and the place of a store
stored_line : {P : Program} {known : Known} {m k : ℕ} {o : Option ℕ} {c : ℤ} → Stores P known m k o c
    → (p : ℕ) × (next : ℕ) × (from : ℕ) × (o ≡ Some p) × IsLine P m p next (rows.Store (Numbers IntType) k) × Pushes P known m from p c × (¬ IsNamed P m p)
stored_line (stores {from = from} {w = w} {next = next} pushes line free) = (w, next, from, refl, line, pushes, free)

none_stored : {P : Program} {known : Known} {m k : ℕ} {c : ℤ} → Stores P known m k None c → ⊥
none_stored s = let l = stored_line s in none≢some l.0 l.3

-- ---- the int that is stored last

module _ (P : Program) (known : Known) (m : ℕ) (b : Body) (of : IsBodyOf P known m b) (one : LinesAreOne) (write : LastWritesWrite) (exist : LastWritesExist) (pushed : PushedAreOne)
    (k : ℕ) (u : Node) (come : IsReached (IsEdge P m) u) (found : LastWrites) (are : AreLastWrites P m k u found) where
  abbrev rules : Rules
  rules = further P known

  abbrev places : List ℕ
  places = found.places.items

  one_int : (p : ℕ) (c d : ℤ) → rules.stored m p c → rules.stored m p d → c ≡ d
  one_int p c d x y = (pushed P known m x.1 y.1 p c d (record { stays = of.stays; reached = x.0.reached; unnamed = x.0.unnamed }) x.2 y.2).1

  -- what is stored is what the act stores
  sets : (p : ℕ) (c : ℤ) → MayBeLast P m k u (Some p) → Stores P known m k (Some p) c → StoresAt b.acts c p
  sets p c may s =
      let l = stored_line s in
      let same : l.0 ≡ p = some_same l.0 p (sym l.3) in
      let reached = (write P m k p u may).0 in
      let line = subst (λ (q : ℕ). IsLine P m q l.1 (rows.Store (Numbers IntType) k)) same l.4 in
      let push = subst (λ (q : ℕ). Pushes P known m l.2 q c) same l.5 in
      let free = subst (λ (q : ℕ). ¬ IsNamed P m q) same l.6 in
      ap stored_by (store_is P rules m b.acts one of.acts one_int p l.1 k c line (record { reached = reached; unnamed = free }, l.2, push))

  set_stores : (p : ℕ) (c : ℤ) → MayBeLast P m k u (Some p) → StoresAt b.acts c p → Stores P known m k (Some p) c
  set_stores p c may e =
      let a = stored_cases (act_at b.acts p) c e in
      let row = stored_is P rules m b.acts one of.acts p a.0 c a.1 in
      let wrote : Contains (a.0 ∷ []) k = subst (λ (x : Act). Contains (written x) k) a.1 (writes_at P rules m b.acts one of.acts p k (write P m k p u may).1) in
      let local : a.0 ≡ k = elim (cons_cases a.0 k [] wrote) [ inl same ↦ same | inr none ↦ absurd (nil_contains k none) ] in
      stores row.1.2 (subst (λ (i : ℕ). IsLine P m p row.0.0 (rows.Store (Numbers IntType) i)) local row.0.1) row.1.0.unnamed

  all_sets : (c : ℤ) → AllStore P known m k u c → All (StoresAt b.acts c) places
  all_sets c all j d lt =
      let p = get_or places j d in
      let may = (are.places p).0 (Contains-get_or places j d lt) in
      sets p c may (all (Some p) may)

  all_store : (c : ℤ) → found.unwritten ≡ false → All (StoresAt b.acts c) places → AllStore P known m k u c
  all_store c none all None may = absurd (false≢true (sym none ∙ are.unwritten.1 may))
  all_store c none all (Some p) may = set_stores p c may (All-contains (StoresAt b.acts c) places p all ((are.places p).1 may))

  some_place : found.unwritten ≡ false → (p : ℕ) × Contains places p
  some_place none = by (exist P m k u of.stays come)
    where
      by : (w : Option ℕ) × MayBeLast P m k u w → (p : ℕ) × Contains places p
      by (None, may) = absurd (false≢true (sym none ∙ are.unwritten.1 may))
      by (Some p, may) = (p, (are.places p).1 may)

  -- where on some way none wrote
  pub unwritten_only : found.unwritten ≡ true → IsOnly (AllStore P known m k u) None
  unwritten_only is c all = none_stored (all None (are.unwritten.0 is))

  pub none_only : found.unwritten ≡ false → ((c : ℤ) → places ≢ [] → ¬ All (StoresAt b.acts c) places) → IsOnly (AllStore P known m k u) None
  none_only is none c all =
      let p = some_place is in
      none c (λ empty. nil_contains p.0 (subst (λ (ps : List ℕ). Contains ps p.0) empty p.1)) (all_sets c all)

  pub one_only : (c : ℤ) → found.unwritten ≡ false → All (StoresAt b.acts c) places → IsOnly (AllStore P known m k u) (Some c)
  one_only c is all = (
    all_store c is all,
    λ d other.
        let p = some_place is in
        some_same d c (sym (All-contains (StoresAt b.acts d) places p.0 (all_sets d other) p.1) ∙ All-contains (StoresAt b.acts c) places p.0 all p.1),
  )

  pub last_only : (o : Option ℤ) → found.unwritten ≡ false → IsStoredByAll b.acts places o → IsOnly (AllStore P known m k u) o
  last_only None is none = none_only is none
  last_only (Some c) is all = one_only c is all
