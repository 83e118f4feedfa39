-- What is counted by acts and numbers of nodes is what the loop rules count.
use Rattle.std.proofs.Common.{◌≡◌, ℕ, zero, suc, ◌+◌, ◌*◌, ℤ, pos, Bool, List, [], ◌∷◌, Contains, Some, None, refl, sym, ap, ap₂, ◌∙◌, subst, arith}
use Rattle.lists.specs.Members.{at_head, nil_contains}
use Rattle.bytecode_model.specs.Program.{Program}
use Rattle.bytecode_model.specs.Rows as rows
use Rattle.bytecode_model.specs.Rows.{Row}
use Rattle.bytecode_model.specs.Types.{IntType, LongType, Numbers, References}
use Rattle.loop_nest.specs.Digraph.{Digraph, Edge}
use Rattle.method_flow.specs.Nodes.{Node, At, RaiseAt, number_of}
use Rattle.code_lines.specs.Lines.{IsLine, Writes, written_by}
use Rattle.code_lines.specs.Laws.{LinesAreOne}
use Rattle.loop_rules.specs.Tests.{IsTest}
use Rattle.loop_rules.specs.Tests.IsTest.{with_zero, with_limit}
use Rattle.loop_rules.specs.Iterations.{LastWrite}
use Rattle.loop_rules.specs.Iterations.LastWrite.{here as rule_here, before as rule_before}
use Rattle.loop_acts.specs.Rules.{Rules}
use Rattle.loop_acts.specs.declared.effects.Test.{Test}
use Rattle.loop_acts.specs.declared.effects.Act.{Act}
use Rattle.loop_acts.specs.declared.effects.Act.TheVariants as does
use Rattle.loop_acts.specs.Acts.{act_at, written, taken_by, IsActAt, AreActs, HasRow}
use Rattle.loop_acts.specs.Writing.{WritesAt}
use Rattle.loop_finder.specs.Setting.{LastWriteFrom}
use Rattle.loop_finder.specs.Setting.LastWriteFrom.{here, before}
use Rattle.loop_finder.proofs.LastWrites.{half}

-- ---- kinds of rows

abbrev IsBranch : Row → Type 0
IsBranch (rows.Branch taken test offset) = Unit {0}
IsBranch r = ⊥

abbrev IsIncrement : Row → Type 0
IsIncrement (rows.Increment k n) = Unit {0}
IsIncrement r = ⊥

abbrev IsLongStore : Row → Type 0
IsLongStore (rows.Store (Numbers LongType) k) = Unit {0}
IsLongStore r = ⊥

abbrev IsReferenceStore : Row → Type 0
IsReferenceStore (rows.Store References k) = Unit {0}
IsReferenceStore r = ⊥

abbrev local_in : Row → ℕ
local_in (rows.Store sort k) = k
local_in r = 0

abbrev stepped_in : Row → ℕ
stepped_in (rows.Increment k n) = k
stepped_in r = 0

abbrev added_in : Row → ℤ
added_in (rows.Increment k n) = n
added_in r = pos 0

-- ---- numbers of nodes

pub odd_is_none : (p q : ℕ) → 2 * p + 1 ≡ 2 * q → ⊥
odd_is_none p q e = omega arith

-- an instruction of this number
pub at_number : (u : Node) (q : ℕ) → number_of u ≡ 2 * q → u ≡ At q
at_number (At p) q e = ap At (half p q e)
at_number (RaiseAt p) q e = absurd (odd_is_none p q e)

-- each number is that of a node
pub node_with : (v : ℕ) → (u : Node) × (number_of u ≡ v)
node_with zero = (At 0, refl)
node_with (suc zero) = (RaiseAt 0, refl)
node_with (suc (suc v)) = later (node_with v)
  where
    later : (u : Node) × (number_of u ≡ v) → (u : Node) × (number_of u ≡ suc (suc v))
    later (At p, e) = (At (suc p), (let f : 2 * p ≡ v = e in omega arith))
    later (RaiseAt p, e) = (RaiseAt (suc p), (let f : 2 * p + 1 ≡ v = e in omega arith))

module _ (P : Program) (rules : Rules) (m : ℕ) (acts : List Act) (one : LinesAreOne) (are : AreActs P rules m acts) where
  -- what an instruction writes is what its act writes
  line_written : (p next : ℕ) (r : Row) → IsLine P m p next r → written_by r ≡ written (act_at acts p)
  line_written p next r line = by (act_at acts p) (are p)
    where
      same : (q : Row) → HasRow P m p q → written_by r ≡ written_by q
      same q h = ap written_by (one P m p next h.0 r q line h.1).1

      tested : (n local : ℕ) (offset : ℤ) (taken : ℤ → Bool) → IsTest P (rules.limit m) m p n local offset taken → written_by r ≡ []
      tested n local offset taken (with_zero {test = test} ll lb free) = same (rows.Branch (IntType ∷ []) test offset) (n, lb)
      tested n local offset taken (with_limit {test = test} ll lim lb free free_push) = same (rows.Branch (IntType ∷ IntType ∷ []) test offset) (n, lb)

      by : (a : Act) → IsActAt P rules m p a → written_by r ≡ written a
      by (does.Test t) h = tested t.next t.local t.offset (taken_by t) h.is
      by (does.Step k n) h = same (rows.Increment k n) h
      by (does.Set k o) h = same (rows.Store (Numbers IntType) k) h.0
      by (does.SetLong k) h = same (rows.Store (Numbers LongType) k) h
      by (does.SetReference k) h = same (rows.Store References k) h
      by does.Other h = h.1 next r line

  pub writes_at : (p k : ℕ) → Writes P m p k → WritesAt acts k p
  writes_at p k w = subst (λ (ks : List ℕ). Contains ks k) (line_written p w.0 w.1 w.2) w.3

  pub writes : (p k : ℕ) → WritesAt acts k p → Writes P m p k
  writes p k has = by (act_at acts p) (are p) has
    where
      row : (q : Row) → HasRow P m p q → Contains (written_by q) k → Writes P m p k
      row q h has = (h.0, q, h.1, has)

      by : (a : Act) → IsActAt P rules m p a → Contains (written a) k → Writes P m p k
      by (does.Test t) h has = absurd (nil_contains k has)
      by (does.Step j n) h has = row (rows.Increment j n) h has
      by (does.Set j o) h has = row (rows.Store (Numbers IntType) j) h.0 has
      by (does.SetLong j) h has = row (rows.Store (Numbers LongType) j) h has
      by (does.SetReference j) h has = row (rows.Store References j) h has
      by does.Other h has = absurd (nil_contains k has)

  -- ---- the last write

  module _ (g : Digraph) (k : ℕ) where
    pub last_found : {u : Node} {p : ℕ} → LastWrite P m g k u p → LastWriteFrom acts g k (number_of u) p
    last_found (rule_here {p} w) = here refl (writes_at p k w)
    last_found (rule_before {u} {w} none later e alone t) = before
        (λ q same has. none q (at_number u q same) (writes q k has))
        (record { later = later; edge = e; alone = alone })
        (last_found t)

    pub last_is : {v p : ℕ} → LastWriteFrom acts g k v p → (u : Node) → number_of u ≡ v → LastWrite P m g k u p
    last_is {p = p} (here e w) u same = subst (λ (z : Node). LastWrite P m g k z p) (sym (at_number u p (same ∙ e))) (rule_here (writes p k w))
    last_is {v} (before {w = w} none source t) u same =
        let n = node_with w in
        let edge : Edge g (number_of n.0) (number_of u) = subst (λ (z : ℕ). Edge g z (number_of u)) (sym n.1) (subst (λ (z : ℕ). Edge g w z) (sym same) source.edge) in
        rule_before
        (λ q is writes_q. none q (sym same ∙ ap number_of is) (writes_at q k writes_q))
        (λ zero_is. source.later (sym same ∙ zero_is))
        edge
        (λ z e. source.alone z (subst (λ (y : ℕ). Edge g z y) same e) ∙ sym n.1)
        (last_is t n.0 n.1)

  -- ---- what is stored

  pub stored_is : (p stored : ℕ) (c : ℤ) → act_at acts p ≡ does.Set stored (Some c) → HasRow P m p (rows.Store (Numbers IntType) stored) × rules.stored m p c
  stored_is p stored c e = subst (IsActAt P rules m p) e (are p)

  pub last_writes : (g : Digraph) (k : ℕ) {u p : ℕ} → LastWriteFrom acts g k u p → WritesAt acts k p
  last_writes g k (here e w) = w
  last_writes g k (before none source t) = last_writes g k t

  -- a store of an int that is pushed directly before it
  pub store_is : ((p : ℕ) (c d : ℤ) → rules.stored m p c → rules.stored m p d → c ≡ d) → (p next k : ℕ) (c : ℤ) → IsLine P m p next (rows.Store (Numbers IntType) k) → rules.stored m p c → act_at acts p ≡ does.Set k (Some c)
  store_is one_int p next k c line pushed = by (act_at acts p) refl (are p)
    where
      same : (q : Row) → HasRow P m p q → q ≡ rows.Store (Numbers IntType) k
      same q h = (one P m p h.0 next q (rows.Store (Numbers IntType) k) h.1 line).1

      by : (a : Act) → act_at acts p ≡ a → IsActAt P rules m p a → act_at acts p ≡ does.Set k (Some c)
      by (does.Test t) e h = absurd (no_test h.is)
        where
          no_test : {n local : ℕ} {offset : ℤ} {taken : ℤ → Bool} → IsTest P (rules.limit m) m p n local offset taken → ⊥
          no_test {n} {offset = offset} (with_zero {test = test} ll lb free) = subst IsBranch (same (rows.Branch (IntType ∷ []) test offset) (n, lb)) tt
          no_test {n} {offset = offset} (with_limit {test = test} ll lim lb free free_push) = subst IsBranch (same (rows.Branch (IntType ∷ IntType ∷ []) test offset) (n, lb)) tt
      by (does.Step j n) e h = absurd (subst IsIncrement (same (rows.Increment j n) h) tt)
      by (does.Set j None) e h = absurd (h.1 c pushed)
      by (does.Set j (Some d)) e h =
          let local : j ≡ k = ap local_in (same (rows.Store (Numbers IntType) j) h.0) in
          let int : d ≡ c = one_int p d c h.1 pushed in
          e ∙ ap₂ (λ (i : ℕ) (z : ℤ). does.Set i (Some z)) local int
      by (does.SetLong j) e h = absurd (subst IsLongStore (same (rows.Store (Numbers LongType) j) h) tt)
      by (does.SetReference j) e h = absurd (subst IsReferenceStore (same (rows.Store References j) h) tt)
      by does.Other e h = absurd (nil_contains k (subst (λ (ks : List ℕ). Contains ks k) (h.1 next (rows.Store (Numbers IntType) k) line) (at_head k [])))

  -- ---- tests and steps

  -- the act at a test
  pub test_act : (p next local : ℕ) (offset : ℤ) (taken : ℤ → Bool) → IsTest P (rules.limit m) m p next local offset taken
      → (t : Test) × (act_at acts p ≡ does.Test t) × (next ≡ t.next) × (local ≡ t.local) × (offset ≡ t.offset) × (taken ≡ taken_by t)
  test_act p next local offset taken is = by (act_at acts p) refl (are p)
    where
      Found : Type 0
      Found = (t : Test) × (act_at acts p ≡ does.Test t) × (next ≡ t.next) × (local ≡ t.local) × (offset ≡ t.offset) × (taken ≡ taken_by t)

      branch : {n k : ℕ} {o : ℤ} {t : ℤ → Bool} → IsTest P (rules.limit m) m p n k o t → (r : Row) × IsLine P m p n r × IsBranch r
      branch {o = o} (with_zero {test = test} ll lb free) = (rows.Branch (IntType ∷ []) test o, lb, tt)
      branch {o = o} (with_limit {test = test} ll lim lb free free_push) = (rows.Branch (IntType ∷ IntType ∷ []) test o, lb, tt)

      other : (q : Row) → HasRow P m p q → IsBranch q
      other q h = let b = branch is in subst IsBranch (one P m p next h.0 b.0 q b.1 h.1).1 b.2

      by : (a : Act) → act_at acts p ≡ a → IsActAt P rules m p a → Found
      by (does.Test t) e h = let o = h.only next local offset taken is in (t, e, o.0, o.1, o.2, o.3)
      by (does.Step k n) e h = absurd (other (rows.Increment k n) h)
      by (does.Set k o) e h = absurd (other (rows.Store (Numbers IntType) k) h.0)
      by (does.SetLong k) e h = absurd (other (rows.Store (Numbers LongType) k) h)
      by (does.SetReference k) e h = absurd (other (rows.Store References k) h)
      by does.Other e h = absurd (h.0 next local offset taken is)

  -- the act at a step
  pub step_act : (p next k : ℕ) (n : ℤ) → IsLine P m p next (rows.Increment k n) → act_at acts p ≡ does.Step k n
  step_act p next k n line = by (act_at acts p) refl (are p)
    where
      same : (q : Row) → HasRow P m p q → rows.Increment k n ≡ q
      same q h = (one P m p next h.0 (rows.Increment k n) q line h.1).1

      not_branch : {i j : ℕ} {offset : ℤ} {taken : ℤ → Bool} → IsTest P (rules.limit m) m p i j offset taken → ⊥
      not_branch {i} {offset = offset} (with_zero {test = test} ll lb free) = subst IsIncrement (same (rows.Branch (IntType ∷ []) test offset) (i, lb)) tt
      not_branch {i} {offset = offset} (with_limit {test = test} ll lim lb free free_push) = subst IsIncrement (same (rows.Branch (IntType ∷ IntType ∷ []) test offset) (i, lb)) tt

      by : (a : Act) → act_at acts p ≡ a → IsActAt P rules m p a → act_at acts p ≡ does.Step k n
      by (does.Test t) e h = absurd (not_branch h.is)
      by (does.Step j z) e h = e ∙ sym (ap₂ (λ (i : ℕ) (y : ℤ). does.Step i y) (ap stepped_in (same (rows.Increment j z) h)) (ap added_in (same (rows.Increment j z) h)))
      by (does.Set j o) e h = absurd (subst IsIncrement (same (rows.Store (Numbers IntType) j) h.0) tt)
      by (does.SetLong j) e h = absurd (subst IsIncrement (same (rows.Store (Numbers LongType) j) h) tt)
      by (does.SetReference j) e h = absurd (subst IsIncrement (same (rows.Store References j) h) tt)
      by does.Other e h = absurd (nil_contains k (subst (λ (ks : List ℕ). Contains ks k) (h.1 next (rows.Increment k n) line) (at_head k [])))
