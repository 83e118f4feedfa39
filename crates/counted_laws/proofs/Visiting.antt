-- Visits one after another: where control comes from, and what was pushed there.
use Rattle.std.proofs.Common.{◌≡◌, ◌⊎◌, ℕ, Bool, true, false, not, ℤ, List, [], ◌∷◌, Contains, Option, Some, refl, sym, ap, ◌∙◌, subst, inl, inr, arith}
use Rattle.std.proofs.lemmas.Int.{ints}
use Rattle.std.proofs.lemmas.Bool.{false≢true}
use Rattle.lists.proofs.Lemmas.{some_is, some_in, some_same}
use Rattle.lists.specs.Members.{nil_contains}
use Rattle.bytecode_model.specs.declared.Value.{Value}
use Rattle.bytecode_model.specs.declared.Value.TheVariants.{Int}
use Rattle.bytecode_model.specs.Types.{IntType, Numbers, is_long}
use Rattle.bytecode_model.specs.Program.{Program, Body, Handler, body_of}
use Rattle.bytecode_model.specs.Rows as rows
use Rattle.bytecode_model.specs.Rows.{Row}
use Rattle.bytecode_model.specs.Steps.{row_in}
use Rattle.loop_nest.specs.Digraph.{Digraph, Edge}
use Rattle.loop_nest.specs.Walks.{IsMember}
use Rattle.method_flow.specs.Nodes.{Node, At, RaiseAt, number_of, LeadsTo, IsHandled, IsEdge, IsReached}
use Rattle.method_flow.specs.Nodes.IsReached.{first, later}
use Rattle.method_flow.specs.Graphs.{IsGraphOf}
use Rattle.code_lines.specs.Lines.{IsLine, Names, IsNamed, Writes, written_by}
use Rattle.code_lines.specs.Laws.{LinesAreOne, LinesAreApart, OneStandsBefore}
use Rattle.loop_rules.specs.Tests.{IsTest, LeavesLoop}
use Rattle.loop_rules.specs.Tests.IsTest.{with_zero, with_limit}
use Rattle.loop_rules.specs.Tests.LeavesLoop.{where_taken, where_not}
use Rattle.loop_rules.specs.Further.Known.{Known, Pushes}
use Rattle.counted_laws.specs.Visits.{Visit, HoldsValue, HoldsInt, Branched, Grows, Passes, Path}
use Rattle.counted_laws.specs.Visits.Path.{here, more}
use Rattle.counted_laws.proofs.Lengths.{then_grows}

-- ---- numbers of nodes

pub same_node : (u v : Node) → number_of u ≡ number_of v → u ≡ v
same_node (At p) (At q) e = let same : p ≡ q = omega arith in ap At same
same_node (At p) (RaiseAt q) e = absurd (omega arith)
same_node (RaiseAt p) (At q) e = absurd (omega arith)
same_node (RaiseAt p) (RaiseAt q) e = let same : p ≡ q = omega arith in ap RaiseAt same

place_of : Node → ℕ
place_of (At p) = p
place_of (RaiseAt p) = p

pub same_place : (p q : ℕ) → At p ≡ At q → p ≡ q
unfolding place_of
same_place p q e = ap place_of e

-- ---- where control goes

leads_names : (p next : ℕ) (r : Row) (q : ℕ) → LeadsTo p next r q → Names p r q ⊎ (q ≡ next)
leads_names p next (rows.Jump offset) q h = inl h
leads_names p next (rows.Branch taken test offset) q h = h
leads_names p next (rows.BranchSame wanted offset) q h = h
leads_names p next (rows.BranchNull wanted offset) q h = h
leads_names p next (rows.Switch otherwise cases) q h = inl h
leads_names p next (rows.Return result) q h = absurd h
leads_names p next rows.Throw q h = absurd h
leads_names p next r q h = inr h

module _ (one : LinesAreOne) (apart : LinesAreApart) (before : OneStandsBefore) (P : Program) (known : Known) (m : ℕ) where
  -- a row that writes no local variable
  pub no_writes : (p next : ℕ) (r : Row) → IsLine P m p next r → written_by r ≡ [] → (k : ℕ) → Writes P m p k → ⊥
  no_writes p next r line none k w =
      let same : w.1 ≡ r = (one P m p w.0 next w.1 r w.2 line).1 in
      nil_contains k (subst (λ (xs : List ℕ). Contains xs k) (ap written_by same ∙ none) w.3)

  -- control comes to a place that nothing names from the line before it alone
  comes_from : (a b : Visit) → Passes P known m a b → (p q : ℕ) (r : Row) → IsLine P m p q r → (IsNamed P m q → ⊥) → b.node ≡ At q → a.node ≡ At p
  comes_from a b passes p q r line unnamed at = by a.node refl (subst (λ (v : Node). IsEdge P m a.node v) at passes.edge)
    where
      by : (u : Node) → a.node ≡ u → IsEdge P m a.node (At q) → a.node ≡ At p
      by (RaiseAt x) is edge =
          let caught = subst (λ (v : Node). IsEdge P m v (At q)) is edge in
          let b' = some_is (body_of P m) (λ (y : Body). IsHandled y.handlers x q) caught in
          absurd (unnamed (inr (some_in (body_of P m) b'.0 (λ (y : Body). (h : Handler) × Contains y.handlers h × (h.target ≡ q)) b'.1 (b'.2.entry, b'.2.among, b'.2.handler))))
      by (At x) is edge =
          let leads = subst (λ (v : Node). IsEdge P m v (At q)) is edge in
          let row = some_is (row_in P m x) (λ (y : ℕ × Row). LeadsTo x y.0 y.1 q) leads in
          let here' : IsLine P m x row.0.0 row.0.1 = record { start = passes.start x is; is = row.1 } in
          elim (leads_names x row.0.0 row.0.1 q row.2) [
            | inl names ↦ absurd (unnamed (inl (x, row.0.0, row.0.1, here', names)))
            | inr next ↦
                let there : IsLine P m x q row.0.1 = subst (λ (n : ℕ). IsLine P m x n row.0.1) (sym next) here' in
                is ∙ ap At (before P m x p q row.0.1 r there line)
          ]

  -- the visit before one at such a place
  pub record Before (w z : Visit) (p : ℕ) : Type 0 where
    pub visit : Visit
    pub nodes : List ℕ
    pub path : Path P known m w visit nodes
    pub passes : Passes P known m visit z
    pub at : visit.node ≡ At p

  pub came_from : (w z : Visit) (ns : List ℕ) → w.node ≡ At 0 → Path P known m w z ns → (p q : ℕ) (r : Row) → IsLine P m p q r → (IsNamed P m q → ⊥) → z.node ≡ At q → Before w z p
  came_from w z ns begins (here) p q r line unnamed at =
      let zero' : 0 ≡ q = same_place 0 q (sym begins ∙ at) in
      let up = (apart P m p q p q r r line line).0 in
      absurd (omega arith)
  came_from w z ns begins (more {b} {ns = ms} path passes) p q r line unnamed at = record { visit = b; nodes = ms; path = path; passes = passes; at = comes_from b z passes p q r line unnamed at }

  -- ---- what lies on top

  int_same : (x y : ℤ) → ◌≡◌ {A = Option Value} (Some (Int x)) (Some (Int y)) → x ≡ y
  int_same x y e = let same = some_same (Int x) (Int y) e in int_of same
    where
      int_of : Int x ≡ Int y → x ≡ y
      int_of e' = cc

  -- a line that writes no local variable leaves a value
  pub kept : (a b : Visit) → Passes P known m a b → (p next : ℕ) (r : Row) → IsLine P m p next r → a.node ≡ At p → written_by r ≡ [] → (k : ℕ) (v : Value) → is_long v ≡ false → HoldsValue a.locals k v → HoldsValue b.locals k v
  kept a b passes p next r line at none k v short holds =
      passes.keeps k v short holds (λ q is writes. no_writes p next r line none k (subst (λ (i : ℕ). Writes P m i k) (same_place q p (sym is ∙ at)) writes))

  -- an earlier visit, of the place from which lines lead on to this one; they write no local variable
  pub record Came (w z : Visit) (from : ℕ) : Type 0 where
    pub visit : Visit
    pub nodes : List ℕ
    pub path : Path P known m w visit nodes
    pub at : visit.node ≡ At from
    pub keeps : (k : ℕ) (v : Value) → is_long v ≡ false → HoldsValue visit.locals k v → HoldsValue z.locals k v
    pub grows : Grows visit.lengths z.lengths

  -- one more line before
  abbrev pub came_by : (w a z : Visit) (ns : List ℕ) (p next : ℕ) (r : Row) → Path P known m w a ns → Passes P known m a z → a.node ≡ At p → IsLine P m p next r → written_by r ≡ [] → Came w z p
  came_by w a z ns p next r path passes at line none = record { visit = a; nodes = ns; path = path; at = at; keeps = λ k v short holds. kept a z passes p next r line at none k v short holds; grows = passes.grows }

  abbrev pub came_before : (w a z : Visit) (p q next : ℕ) (r : Row) → Came w a p → Passes P known m a z → a.node ≡ At q → IsLine P m q next r → written_by r ≡ [] → Came w z p
  came_before w a z p q next r came passes at line none = record {
    visit = came.visit;
    nodes = came.nodes;
    path = came.path;
    at = came.at;
    keeps = λ k v short holds. kept a z passes q next r line at none k v short (came.keeps k v short holds);
    grows = then_grows came.visit.lengths a.lengths z.lengths came.grows passes.grows;
  }

  abbrev pub came_through : (w a : Visit) (p q : ℕ) → (c : Came w a q) → Came w c.visit p → Came w a p
  came_through w a p q c d = record {
    visit = d.visit;
    nodes = d.nodes;
    path = d.path;
    at = d.at;
    keeps = λ k v short holds. c.keeps k v short (d.keeps k v short holds);
    grows = then_grows d.visit.lengths c.visit.lengths a.lengths d.grows c.grows;
  }

  -- the int of the local variable was pushed directly before
  pub loaded : (w z : Visit) (ns : List ℕ) → w.node ≡ At 0 → Path P known m w z ns → (local p q : ℕ) → IsLine P m p q (rows.Load (Numbers IntType) local) → (IsNamed P m q → ⊥) → z.node ≡ At q
      → (x : ℤ) × (rest : List Value) × HoldsInt z.locals local x × (z.operands ≡ Int x ∷ rest)
  loaded w z ns begins path local p q line unnamed at =
      let b = came_from w z ns begins path p q (rows.Load (Numbers IntType) local) line unnamed at in
      let did = b.passes.does p q (rows.Load (Numbers IntType) local) b.at line.is in
      (did.0, b.visit.operands, kept b.visit z b.passes p q (rows.Load (Numbers IntType) local) line b.at refl local (Int did.0) refl did.1, did.2.1)

  -- what pushes a limit is known
  abbrev pub LimitsLie : Type 0
  LimitsLie =
      (w z : Visit) (ns : List ℕ) (from to : ℕ) (c : ℤ) → w.node ≡ At 0 → Path P known m w z ns → Pushes P known m from to c → (IsNamed P m to → ⊥) → z.node ≡ At to
      → (y : Came w z from) × (z.operands ≡ Int c ∷ y.visit.operands)

  pub tested : LimitsLie → (w b c : Visit) (ns : List ℕ) → w.node ≡ At 0 → Path P known m w b ns → Passes P known m b c → (local p next : ℕ) (offset : ℤ) (taken : ℤ → Bool) → IsTest P (Pushes P known m) m p next local offset taken
      → b.node ≡ At p → (x : ℤ) → HoldsInt b.locals local x → Branched p next offset (taken x) c
  tested lie w b c ns begins path passes local p next offset taken (with_zero {load} {test} line branch unnamed) at x holds =
      let l = loaded w b ns begins path local load p line unnamed at in
      let same : l.0 ≡ x = int_same l.0 x (sym l.2 ∙ holds) in
      subst (λ (v : ℤ). Branched p next offset (test v) c) same (passes.does p next (rows.Branch (IntType ∷ []) test offset) at branch.is l.0 l.1 l.3)
  tested lie w b c ns begins path passes local p next offset taken (with_limit {load} {push} {limit} {test} line pushes branch unnamed unnamed') at x holds =
      let y = lie w b ns push p limit begins path pushes unnamed at in
      let l = loaded w y.0.visit y.0.nodes begins y.0.path local load push line unnamed' y.0.at in
      let still : HoldsInt b.locals local l.0 = y.0.keeps local (Int l.0) refl l.2 in
      let same : l.0 ≡ x = int_same l.0 x (sym still ∙ holds) in
      let top : b.operands ≡ Int limit ∷ Int l.0 ∷ l.1 = y.1 ∙ ap (λ (ops : List Value). Int limit ∷ ops) l.3 in
      subst (λ (v : ℤ). Branched p next offset (test limit v) c) same (passes.does p next (rows.Branch (IntType ∷ IntType ∷ []) test offset) at branch.is limit l.0 l.1 top)

-- a value with which control stays in the loop doesn't leave it
pub stays_in : (g : Digraph) (h p next : ℕ) (offset : ℤ) (taken out : ℤ → Bool) → LeavesLoop g h p next offset taken out → (c : Visit) (x : ℤ) → Branched p next offset (taken x) c → IsMember g h (number_of c.node) → out x ≡ false
stays_in g h p next offset taken out (where_taken {q} at outside inside) c x branched member = by (taken x) refl branched
  where
    by : (t : Bool) → taken x ≡ t → Branched p next offset t c → taken x ≡ false
    by true is (place, at', node) =
        let same : place ≡ q = omega (arith, ints, at, at') in
        absurd (outside (subst (λ (v : Node). IsMember g h (number_of v)) (node ∙ ap At same) member))
    by false is node = is
stays_in g h p next offset taken out (where_not {q} at inside outside) c x branched member = by (taken x) refl branched
  where
    by : (t : Bool) → taken x ≡ t → Branched p next offset t c → not (taken x) ≡ false
    by true is there = ap not is
    by false is node = absurd (outside (subst (λ (v : Node). IsMember g h (number_of v)) node member))

pub is_increment : Row → Bool
is_increment (rows.Increment k n) = true
is_increment r = false

-- a test is another instruction than a step
pub test_is_branch : (P : Program) (known : Known) (m p next local : ℕ) (offset : ℤ) (taken : ℤ → Bool) → IsTest P (Pushes P known m) m p next local offset taken → (r : Row) × IsLine P m p next r × (is_increment r ≡ false)
unfolding is_increment
test_is_branch P known m p next local offset taken (with_zero {load} {test} line branch unnamed) = (rows.Branch (IntType ∷ []) test offset, branch, refl)
test_is_branch P known m p next local offset taken (with_limit {load} {push} {limit} {test} line pushes branch unnamed unnamed') = (rows.Branch (IntType ∷ IntType ∷ []) test offset, branch, refl)

pub step_is_other : LinesAreOne → (P : Program) (m p next after k : ℕ) (n : ℤ) (r : Row) → IsLine P m p next (rows.Increment k n) → IsLine P m p after r → is_increment r ≡ false → ⊥
unfolding is_increment
step_is_other one P m p next after k n r step line other =
    let same : rows.Increment k n ≡ r = (one P m p next after (rows.Increment k n) r step line).1 in
    false≢true (sym other ∙ sym (ap is_increment same))

-- ---- the graph

pub reached : {P : Program} {known : Known} {m : ℕ} {w v : Visit} {ns : List ℕ} → w.node ≡ At 0 → Path P known m w v ns → IsReached (IsEdge P m) v.node
reached {P} {known} {m} {w} begins (here) = subst (λ (u : Node). IsReached (IsEdge P m) u) (sym begins) first
reached begins (more path passes) = later (reached begins path) passes.edge

pub edge_in : (P : Program) (known : Known) (m : ℕ) (g : Digraph) → IsGraphOf P m g → (a b w : Visit) (ns : List ℕ) → w.node ≡ At 0 → Path P known m w a ns → Passes P known m a b → Edge g (number_of a.node) (number_of b.node)
edge_in P known m g of a b w ns begins path passes =
    (of.edges (number_of a.node) (number_of b.node)).1 (record { source = a.node; target = b.node; reached = reached begins path; edge = passes.edge; numbered = (refl, refl) })
