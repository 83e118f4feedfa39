-- Where all is ready for a method, its live graph has a nest, and each of its loops a bound.
use Rattle.std.proofs.Common.{◌≡◌, ℕ, ◌*◌, ◌/◌, List, [], ◌∷◌, map, Contains, None, refl, sym, ap, ◌∙◌, subst, inl, inr, arith}
use Rattle.std.specs.Prelude.{◌%◌, ◌==◌}
use Rattle.std.proofs.lemmas.Bool.{cond-true, eq-eqb}
use Rattle.std.proofs.lemmas.List.Elements.{All-contains}
use Rattle.loop_nest.specs.Digraph.{Digraph, Edge}
use Rattle.loop_nest.specs.Walks.{IsHeader}
use Rattle.loop_nest.specs.Nest.{IsLoopOf}
use Rattle.loop_nest.specs.Reduction.{Leaves, IsReducible}
use Rattle.bytecode_model.specs.Program.{Program}
use Rattle.method_flow.specs.Nodes.{Node, IsEdge, IsReached}
use Rattle.method_flow.specs.Nodes.IsReached.{first, later}
use Rattle.method_flow.specs.Live.{IsLiveEdge}
use Rattle.method_flow.specs.Graphs.{IsGraphOf, IsLiveGraph}
use Rattle.method_flow.specs.Keeping.{BoundOf}
use Rattle.method_flow.specs.Regions.IsWithin.{itself}
use Rattle.bound_rules.specs.declared.faults.BoundRefusal.{BoundRefusal}
use Rattle.bound_rules.specs.declared.faults.BoundRefusal.TheVariants.{NoMethod, Recursion, Irreducible, MissingBound, TooLarge, NoMemory}
use Rattle.bound_rules.specs.Bounding.{IsLeftWith}
use Rattle.bound_rules.specs.Fitting.{header_bound}
use Rattle.bound_rules.specs.Laws.{HeadersAreInstructions}
use Rattle.compact_walks.specs.Moving.{IsMoved}
use Rattle.compact_walks.specs.Laws.{GraphsAreMoved, PartsAreSound, EndsAreOne, MovedIsNest, IsSoundPart}
use Rattle.bound_finder.specs.declared.shape.Shape.{Shape}
use Rattle.bound_finder.specs.Prepared.{node_of, nest_of, IsShapeOf, IsLeftBy, IsUnbounded}
use Rattle.bound_finder.specs.Ready.{AreReady}
use Rattle.bound_finder.specs.Laws.{ReadyHasShape}

none_mapped : (f : ℕ → ℕ) (xs : List ℕ) → [] ≡ map f xs → xs ≡ []
none_mapped f [] e = refl
none_mapped f (x ∷ xs) e = absurd (let bad : ⊥ = cc in bad)

-- the bound of a header that is an instruction
place_bound : (bound_of : BoundOf) (m h q : ℕ) → h ≡ 2 * q → header_bound bound_of m h ≡ bound_of m q
place_bound bound_of m h q is =
    let even : h % 2 ≡ 0 = omega arith in
    let place : h / 2 ≡ q = omega arith in
    cond-true (h % 2 == 0) (bound_of m (h / 2)) None (eq-eqb (h % 2) 0 even) ∙ ap (bound_of m) place

-- ---- the live graph is a part of the whole

module _ (P : Program) (m : ℕ) where
  reached_whole : {u : Node} → IsReached (IsLiveEdge P m) u → IsReached (IsEdge P m) u
  reached_whole first = first
  reached_whole (later r e) = later (reached_whole r) e.edge

  edges_whole : (whole g : Digraph) → IsGraphOf P m whole → IsLiveGraph P m g → (u v : ℕ) → Edge g u v → Edge whole u v
  edges_whole whole g graph live u v e =
      let x = (live.edges u v).0 e in
      (graph.edges u v).1 (record { source = x.source; target = x.target; reached = reached_whole x.reached; edge = x.edge.edge; numbered = x.numbered })

module _ (moved : GraphsAreMoved) (parts : PartsAreSound) (one : EndsAreOne) (nests : MovedIsNest) (even : HeadersAreInstructions) (P : Program) (bound_of : BoundOf) (m : ℕ) (order : List ℕ) (g : Digraph) (ready : AreReady P bound_of order)
    (has : Contains order m) (live : IsLiveGraph P m g) where
  whole : IsLeftWith P m []
  whole = ready.reducible m has m itself

  reducible : IsReducible whole.compact
  reducible = subst (λ (left : List ℕ). Leaves whole.compact left) (none_mapped whole.node whole.left whole.nodes_are) whole.leaves

  part : (d : Digraph) (node : ℕ → ℕ) → IsMoved g d node → IsSoundPart whole.graph g d
  part d node is = parts whole.graph g whole.compact d whole.node node (moved P m whole.graph whole.compact whole.node (inl whole.is_graph) whole.is_compact) is (edges_whole P m whole.graph g whole.is_graph live) reducible

  left_none : (fault : BoundRefusal) → IsLeftBy g m fault → fault ≡ NoMemory
  left_none (Irreducible x nodes) h =
      let r = h.1 in
      let sound = part r.0 r.1 (moved P m g r.0 r.1 (inr live) r.3) in
      absurd (r.5 (one g r.0 r.1 r.3 r.2 [] r.4 sound.reducible))
  left_none NoMemory h = refl
  left_none NoMethod h = absurd h
  left_none (Recursion cycle) h = absurd h
  left_none (MissingBound x p) h = absurd h
  left_none (TooLarge x) h = absurd h

  bounded : (s : Shape) (fault : BoundRefusal) → IsShapeOf g s → IsUnbounded bound_of m s fault → fault ≡ NoMemory
  bounded s (MissingBound x p) shape h =
      let r = h.1 in
      let is = moved P m g s.graph (node_of s) (inr live) shape.compact in
      let nest = nests g s.graph (node_of s) is s.nest shape.nest in
      let loop = All-contains (IsLoopOf g) (nest_of s) r.0 nest.loops r.1 in
      let header = (part s.graph (node_of s) is).headers r.0.header loop.header in
      let at = even P m whole.graph r.0.header (inl whole.is_graph) header in
      absurd (ready.lines m has m at.0 (record {
        within = itself;
        graph = whole.graph;
        is_graph = whole.is_graph;
        header = subst (λ (h : ℕ). IsHeader whole.graph h) at.1 header;
        none = sym (place_bound bound_of m r.0.header at.0 at.1) ∙ r.2;
      }))
  bounded s NoMemory shape h = refl
  bounded s NoMethod shape h = absurd h
  bounded s (Recursion cycle) shape h = absurd h
  bounded s (Irreducible x nodes) shape h = absurd h
  bounded s (TooLarge x) shape h = absurd h

pub ready_has_shape : GraphsAreMoved → PartsAreSound → EndsAreOne → MovedIsNest → HeadersAreInstructions → ReadyHasShape
ready_has_shape moved parts one nests even P t bound_of m order g s fault ready has live =
    (left_none moved parts one nests even P bound_of m order g ready has live fault, bounded moved parts one nests even P bound_of m order g ready has live s fault)
