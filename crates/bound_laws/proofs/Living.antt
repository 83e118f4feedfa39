-- Where the graph of a method is reducible, the cycles of its live graph take back edges, and the headers of its live graph are headers of it.
use Rattle.std.proofs.Common.{◌≡◌, ℕ, List, [], ◌∷◌, ◌++◌, map, Contains, refl, sym, ap, ap₂, ◌∙◌, subst, inl, inr}
use Rattle.std.proofs.lemmas.List.{map-append}
use Rattle.std.proofs.lemmas.List.Elements.{Contains-append_right}
use Rattle.lists.specs.Members.{at_head, cons_cases, has_or_not}
use Rattle.loop_nest.specs.Digraph.{Digraph, Edge}
use Rattle.loop_nest.specs.Walks.{Walk, Dominates, IsReachable, IsBackEdge, IsHeader, TakesEdge}
use Rattle.loop_nest.specs.Walks.Walk.{stay, along}
use Rattle.loop_nest.specs.Reduction.{IsReducible}
use Rattle.loop_nest.specs.Laws.{CyclesTakeBackEdges, LoopsAreNested, HeaderDominatesMembers, DominanceIsAntisymmetric}
use Rattle.loop_nest.proofs.Around.{around_from, joined, not_around}
use Rattle.loop_nest.proofs.Ends.{walk_on}
use Rattle.loop_nest.proofs.SimpleWalks.{begins, walk_until, walk_from}
use Rattle.bytecode_model.specs.Program.{Program}
use Rattle.method_flow.specs.Nodes.{Node, number_of, IsEdge, IsReached}
use Rattle.method_flow.specs.Nodes.IsReached.{first, later}
use Rattle.method_flow.specs.Live.{IsLiveEdge}
use Rattle.method_flow.specs.Graphs.{IsGraphBy, IsGraphOf, IsLiveGraph}
use Rattle.compact_walks.specs.Moving.{IsMoved}
use Rattle.compact_walks.proofs.Walks.{walk_back, ends_back, edge_in, back_edge_out}
use Rattle.bound_laws.specs.Walking.{LeadsFromReached, TakesBackEdges}
use Rattle.bound_laws.proofs.Lists.{parts_at, last_at}
use Rattle.bound_laws.proofs.Cycles.{goes_on, lies_in_loop}

-- a walk of a part is one of the whole
pub whole_walk : {part whole : Digraph} → ((u v : ℕ) → Edge part u v → Edge whole u v) → {u v : ℕ} {ns : List ℕ} → Walk part u v ns → Walk whole u v ns
whole_walk edges stay = stay
whole_walk edges (along {u} {v} e t) = along (edges u v e) (whole_walk edges t)

-- a walk has the edges that it takes
pub taken_edge : {g : Digraph} {u v : ℕ} {ns : List ℕ} → Walk g u v ns → (a h : ℕ) → TakesEdge ns a h → Edge g a h
taken_edge {g} w a h (before, after, is) =
    let r = goes_on (walk_from w before a (h ∷ after) is) (h ∷ after) refl (λ e. let bad : ⊥ = cc in bad) in
    let b = begins r.2 in
    let same : r.0 ≡ h = cc in
    subst (λ (z : ℕ). Edge g a z) same r.1

-- a walk whose nodes have other numbers takes the edges that have these numbers
takes_mapped : (node : ℕ → ℕ) (ns ms : List ℕ) (a h : ℕ) → ns ≡ map node ms → TakesEdge ms a h → TakesEdge ns (node a) (node h)
takes_mapped node ns ms a h is (before, after, parts) = (map node before, map node after, is ∙ (ap (map node) parts ∙ map-append node before (a ∷ h ∷ after)))

-- ---- graphs of methods

module _ (IsEdgeIn : Node → Node → Type 0) (P : Program) (m : ℕ) (g : Digraph) (is : IsGraphBy IsEdgeIn P m g) where
  pub node_reached : {u : Node} → IsReached IsEdgeIn u → IsReachable g (number_of u)
  node_reached first = (0 ∷ [], stay)
  node_reached (later {u} {v} r e) =
      let w = node_reached r in
      walk_on w.1 (along ((is.edges (number_of u) (number_of v)).1 (record { source = u; target = v; reached = r; edge = e; numbered = (refl, refl) })) stay)

  pub edges_from_reached : LeadsFromReached g
  edges_from_reached u v e =
      let r = (is.edges u v).0 e in
      subst (λ (z : ℕ). IsReachable g z) (sym r.numbered.0) (node_reached r.reached)

pub reached_whole : {P : Program} {m : ℕ} {u : Node} → IsReached (IsLiveEdge P m) u → IsReached (IsEdge P m) u
reached_whole first = first
reached_whole (later r e) = later (reached_whole r) e.edge

pub edges_whole : (P : Program) (m : ℕ) (whole g : Digraph) → IsGraphOf P m whole → IsLiveGraph P m g → (u v : ℕ) → Edge g u v → Edge whole u v
edges_whole P m whole g graph live u v e =
    let x = (live.edges u v).0 e in
    (graph.edges u v).1 (record { source = x.source; target = x.target; reached = reached_whole x.reached; edge = x.edge.edge; numbered = x.numbered })

-- ---- a graph whose compact graph is reducible

module _ (cycles : CyclesTakeBackEdges) (whole compact : Digraph) (node : ℕ → ℕ) (moved : IsMoved whole compact node) (reducible : IsReducible compact) where
  pub whole_takes : TakesBackEdges whole
  whole_takes u v ns e w =
      let ends = ends_back whole compact node moved u v e in
      let back = walk_back whole compact node moved w ends.1 ends.3 ends.5 in
      let edge : Edge compact back.target ends.1 = edge_in whole compact node moved back.target ends.1 back.below ends.3 (subst (λ (z : ℕ). Edge whole z (node ends.1)) (sym back.is) (subst (λ (z : ℕ). Edge whole u z) (sym ends.5) e)) in
      let c = cycles compact moved.compact.digraph reducible back.target ends.1 back.nodes edge back.walk in
      let first : u ∷ ns ≡ map node (back.target ∷ back.nodes) = ap₂ (λ (z : ℕ) (zs : List ℕ). z ∷ zs) (sym back.is) (sym back.are) in
      let t = takes_mapped node (u ∷ ns) (back.target ∷ back.nodes) c.0 c.1 first c.2 in
      (node c.0, node c.1, t, back_edge_out whole compact node moved c.0 c.1 c.3)

  -- ---- a part of it

  module _ (g : Digraph) (edges : (u v : ℕ) → Edge g u v → Edge whole u v) where
    part_dominated : (h u : ℕ) → Dominates whole h u → Dominates g h u
    part_dominated h u dominates ns w = dominates ns (whole_walk edges w)

    pub part_takes : TakesBackEdges g
    part_takes u v ns e w =
        let t = whole_takes u v ns (edges u v e) (whole_walk edges w) in
        (t.0, t.1, t.2, record { edge = taken_edge (along e w) t.0 t.1 t.2; dominates = part_dominated t.1 t.0 t.3.dominates })

    module _ (nested : LoopsAreNested) (dominate : HeaderDominatesMembers) (antisymmetric : DominanceIsAntisymmetric) (from_reached : LeadsFromReached whole) (part_reached : LeadsFromReached g) where
      -- the node of a cycle whose loop has the header of its back edge is that header
      same_header : (h k u : ℕ) (after : List ℕ) → IsBackEdge g u h → IsReachable g h → Walk g h u (h ∷ after) → (Contains after h → ⊥) → Contains (h ∷ after) k → Dominates whole k h → h ≡ k
      same_header h k u after back at walk never has dominates =
          elim (cons_cases h k after has) [
            | inl same ↦ same
            | inr there ↦ antisymmetric g h k at (below there) (part_dominated k h dominates)
          ]
        where
          below : Contains after k → Dominates g h k
          below there ns w =
              let r = parts_at after k there in
              let on : Walk g k u (k ∷ r.1) = walk_from walk (h ∷ r.0) k r.1 (ap (λ (zs : List ℕ). h ∷ zs) r.2) in
              elim (has_or_not ns h) [
                | inl has' ↦ has'
                | inr none ↦ absurd (not_around back.dominates (joined (around_from w none) (around_from on (λ c. never (subst (λ (zs : List ℕ). Contains zs h) (sym r.2) (Contains-append_right r.0 (k ∷ r.1) h c))))))
              ]

      pub header_whole : (h : ℕ) → IsHeader g h → IsHeader whole h
      header_whole h (u, back) =
          let r = part_reached u h back.edge in
          let l = last_at r.0 h (back.dominates r.0 r.1) in
          let walk : Walk g h u (h ∷ l.1) = walk_from r.1 l.0 h l.1 l.2 in
          let at : IsReachable g h = (l.0 ++ h ∷ [], walk_until r.1 l.0 h l.1 l.2) in
          let in_loop = lies_in_loop nested whole from_reached whole_takes u h (h ∷ l.1) (edges u h back.edge) (whole_walk edges walk) in
          let same = same_header h in_loop.header u l.1 back at walk l.3 in_loop.visited (dominate whole in_loop.header h (in_loop.members h (at_head h l.1))) in
          subst (λ (z : ℕ). IsHeader whole z) (sym same) (in_loop.members h (at_head h l.1)).0
