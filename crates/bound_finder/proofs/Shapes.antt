-- The nodes of a compact graph and of its loops, and those that its reduction leaves.
use Rattle.std.proofs.Common.{◌≡◌, ℕ, ◌<◌, List, length, get_or, All, Contains, sym, ap, ◌∙◌, subst, arith}
use Rattle.std.specs.Prelude.{slice_index}
use Rattle.std.specs.List.{range_with_len}
use Rattle.std.proofs.lemmas.List.{get_or_default}
use Rattle.std.proofs.lemmas.List.Elements.{All-contains_itself, All-filter, All-tail, All-weaker, Contains-get_or}
use Rattle.loop_nest.specs.Digraph.{Digraph, IsDigraph}
use Rattle.loop_nest.specs.Walks.{Walk}
use Rattle.loop_nest.specs.Walks.Walk.{stay, along}
use Rattle.loop_nest.specs.Reduction.{Quotient, Reduces, Leaves, IsReducible}
use Rattle.loop_nest.specs.Reduction.Reduces.{done, drops, merges}
use Rattle.loop_nest.specs.Nest.{NaturalLoop, IsNest}
use Rattle.loop_nest.proofs.Elements.{from_range}
use Rattle.loop_nest.proofs.Ends.{ends_within}
use Rattle.method_flow.specs.Compact.{IsCompact}
use Rattle.flow_graph.specs.Numbering.{IsCompactOf}
use Rattle.flow_graph.specs.declared.numbering.Compact.{Compact}
use Rattle.compact_walks.proofs.Loops.{member_within}
use Rattle.bound_finder.specs.declared.shape.Shape.{Shape}
use Rattle.bound_finder.specs.Prepared.{IsShapeOf}

-- ---- nodes that are left are nodes

within_whole : (n : ℕ) → All (λ u. u < n) (range_with_len 0 n)
within_whole n = All-weaker (Contains (range_with_len 0 n)) (λ (u : ℕ). u < n) (from_range n) (range_with_len 0 n) (All-contains_itself (range_with_len 0 n))

left_within : (n : ℕ) {s t : Quotient} → Reduces s t → All (λ (u : ℕ). u < n) s.nodes → All (λ (u : ℕ). u < n) t.nodes
left_within n done h = h
left_within n (drops {s} {t} {u} p step more) h = let Q : List ℕ → Type 0 = λ xs. All (λ (u : ℕ). u < n) xs in left_within n more (subst Q (sym step.nodes) h)
left_within n (merges {s} {t} {u} x p step more) h =
    let Q : List ℕ → Type 0 = λ xs. All (λ (u : ℕ). u < n) xs in
    left_within n more (subst Q (sym step.nodes) (All-filter _ (λ (u : ℕ). u < n) s.nodes h))

pub leaves_nodes : (d : Digraph) (left : List ℕ) → Leaves d left → All (λ u. u < d.nodes) left
leaves_nodes d left l =
    let Q : List ℕ → Type 0 = λ xs. All (λ (u : ℕ). u < d.nodes) xs in
    All-tail (λ (u : ℕ). u < d.nodes) 0 left (subst Q l.nodes (left_within d.nodes l.steps (within_whole d.nodes)))

-- ---- the nodes of a compact graph are nodes of the other

node_below : (g d : Digraph) (node : ℕ → ℕ) → IsDigraph g → IsCompact g d node → {u v : ℕ} {ns : List ℕ} → Walk d u v ns → node u < g.nodes → node v < g.nodes
node_below g d node wf h stay below = below
node_below g d node wf h (along {u} {v} e t) below = let edge = (h.edges u v).0 e in node_below g d node wf h t (ends_within wf (node u) (node v) edge.2).1

nodes_below : (g d : Digraph) (node : ℕ → ℕ) → IsDigraph g → IsCompact g d node → (u : ℕ) → u < d.nodes → node u < g.nodes
nodes_below g d node wf h u lt =
    let r = h.reached u lt in
    let entry = wf.entry in
    node_below g d node wf h r.1 (subst (λ (z : ℕ). z < g.nodes) (sym h.entry) entry)

-- ---- the shape

pub shape_is : (g : Digraph) (c : Compact) (s : Shape) → IsCompactOf g c → g.nodes ≡ s.size → IsDigraph g → s.graph ≡ c.graph → s.nodes ≡ c.nodes → IsReducible c.graph → IsNest c.graph s.nest → IsShapeOf g s
shape_is g c s is size wf graph nodes reducible nest =
    let D : Digraph → Type 0 = λ d. IsCompact g d (slice_index c.nodes) in
    let N : List ℕ → Type 0 = λ ns. IsCompact g s.graph (slice_index ns) in
    record {
      compact = subst N (sym nodes) (subst D (sym graph) is.compact);
      long = ap length nodes ∙ is.long ∙ ap (λ (d : Digraph). d.nodes) (sym graph);
      within =
          let below : All (λ (x : ℕ). x < s.size) c.nodes =
          λ i d lt. let long = is.long in let h = nodes_below g c.graph (slice_index c.nodes) wf is.compact i (omega arith) in let same = default_at c.nodes i d lt in omega arith
          in
          subst (λ (ns : List ℕ). All (λ (x : ℕ). x < s.size) ns) (sym nodes) below;
      size = sym size;
      reducible = subst (λ (d : Digraph). IsReducible d) (sym graph) reducible;
      nest = subst (λ (d : Digraph). IsNest d s.nest) (sym graph) nest;
    }
  where
    default_at : (ns : List ℕ) (i d : ℕ) → i < length ns → get_or ns i d ≡ slice_index ns i
    default_at ns i d lt = get_or_default ns i d 0 lt

-- ---- the members of its loops are nodes

pub members_within : (g : Digraph) (s : Shape) → IsShapeOf g s → All (λ l. All (λ u. u < length s.nodes) l.members) s.nest
members_within g s is = λ i d lt.
    let l : NaturalLoop = get_or s.nest i d in
    let loop = is.nest.loops i d lt in
    λ k e below.
    let u = get_or l.members k e in
    let h = member_within l.header u is.compact.digraph ((loop.members u).0 (Contains-get_or l.members k e below)) in
    let long = is.long in
    omega arith
