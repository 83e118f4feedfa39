-- The headers of a method's loops are instructions: a raise step is entered from its own instruction alone.
use Rattle.std.proofs.Common.{◌≡◌, ◌≢◌, ℕ, ◌+◌, ◌*◌, List, [], ◌∷◌, ◌++◌, Contains, refl, sym, ◌∙◌, subst, inl, inr, arith}
use Rattle.loop_nest.specs.Digraph.{Digraph, Edge}
use Rattle.loop_nest.specs.Walks.{Walk, IsReachable, IsHeader}
use Rattle.loop_nest.specs.Walks.Walk.{stay, along}
use Rattle.loop_nest.specs.Laws.{WalksComeByEdges}
use Rattle.bytecode_model.specs.Program.{Program}
use Rattle.method_flow.specs.Nodes.{Node, At, RaiseAt, number_of, IsEdge, IsReached}
use Rattle.method_flow.specs.Nodes.IsReached.{first, later}
use Rattle.method_flow.specs.Live.{IsLiveEdge}
use Rattle.method_flow.specs.Graphs.{IsGraphBy, IsReachedEdge}
use Rattle.bound_rules.specs.Laws.{HeadersAreInstructions}

walk_on : {g : Digraph} {u v w : ℕ} {ns : List ℕ} → Walk g u v ns → Edge g v w → Walk g u w (ns ++ w ∷ [])
walk_on stay e = along e stay
walk_on (along e' more) e = along e' (walk_on more e)

module _ (come : WalksComeByEdges) (IsEdgeIn : Node → Node → Type 0) (P : Program) (m : ℕ) (to_edge : (u v : Node) → IsEdgeIn u v → IsEdge P m u v) (g : Digraph) (graph : IsGraphBy IsEdgeIn P m g) where
  pub reachable : {u : Node} → IsReached IsEdgeIn u → IsReachable g (number_of u)
  reachable first = (0 ∷ [], stay)
  reachable (later {u} {v} reached e) =
      let before = reachable reached in
      let edge : Edge g (number_of u) (number_of v) = (graph.edges (number_of u) (number_of v)).1 (record { source = u; target = v; reached = reached; edge = e; numbered = (refl, refl) }) in
      (before.0 ++ number_of v ∷ [], walk_on before.1 edge)

  -- only the instruction leads to its raise step
  source_of_raise : (q : ℕ) (s v : Node) (h : ℕ) → IsEdge P m s v → h ≡ number_of v → h ≡ 2 * q + 1 → number_of s ≡ 2 * q
  source_of_raise q (At p) (At r) h e is at = absurd (omega arith)
  source_of_raise q (At p) (RaiseAt r) h e is at = let same : r ≡ p = e.0 in omega arith
  source_of_raise q (RaiseAt p) (At r) h e is at = absurd (omega arith)
  source_of_raise q (RaiseAt p) (RaiseAt r) h e is at = absurd e

  not_raise : (u h q : ℕ) → IsReachedEdge IsEdgeIn u h → ((ns : List ℕ) → Walk g 0 u ns → Contains ns h) → h ≡ 2 * q + 1 → ⊥
  not_raise u h q r dominates at =
      let there = reachable (later r.reached r.edge) in
      let walk : Walk g 0 h there.0 = subst (λ (x : ℕ). Walk g 0 x there.0) (sym r.numbered.1) there.1 in
      let apart : h ≢ 0 = λ e. let bad : ⊥ = omega arith in bad in
      let came = come g 0 h there.0 walk apart in
      let s = (graph.edges came.0 h).0 came.1 in
      let from_there : came.0 ≡ 2 * q = s.numbered.0 ∙ source_of_raise q s.source s.target h (to_edge s.source s.target s.edge) s.numbered.1 at in
      let from_here : u ≡ 2 * q = r.numbered.0 ∙ source_of_raise q r.source r.target h (to_edge r.source r.target r.edge) r.numbered.1 at in
      let same : came.0 ≡ u = from_there ∙ sym from_here in
      came.2.2 (dominates came.2.0 (subst (λ (x : ℕ). Walk g 0 x came.2.0) same came.2.1))

  header_even : (h : ℕ) → IsHeader g h → (p : ℕ) × (h ≡ 2 * p)
  header_even h (u, back) = by r.target r.numbered.1
    where
      r : IsReachedEdge IsEdgeIn u h
      r = (graph.edges u h).0 back.edge

      by : (v : Node) → h ≡ number_of v → (p : ℕ) × (h ≡ 2 * p)
      by (At p) is = (p, is)
      by (RaiseAt q) is = absurd (not_raise u h q r back.dominates is)

pub headers_are_instructions : WalksComeByEdges → HeadersAreInstructions
headers_are_instructions come P m g h (inl graph) header = header_even come (IsEdge P m) P m (λ u v e. e) g graph h header
headers_are_instructions come P m g h (inr live) header = header_even come (IsLiveEdge P m) P m (λ u v e. e.edge) g live h header
