-- Shapes of graphs, and what is left where there is none.
use Rattle.std.proofs.Common.{◌≡◌, ◌≢◌, ◌==◌, not, ℕ, ◌+◌, ◌<◌, List, [], ◌∷◌, ◌++◌, length, map, get_or, All, Contains, Result, Ok, Err, refl, sym, ap, ◌∙◌, subst, arith}
use Rattle.std.specs.Prelude.{slice_index, IfErr}
use Rattle.std.specs.List.{range_with_len}
use Rattle.std.proofs.lemmas.List.FromFn.{get_or-range_with_len, length-range_with_len, map-range_with_len_more}
use Rattle.std.proofs.lemmas.List.{map-id}
use Rattle.std.proofs.lemmas.List.Elements.{Contains-get_or}
use Rattle.lists.specs.Members.{in_tail}
use Rattle.loop_nest.specs.Digraph.{Digraph, IsDigraph}
use Rattle.loop_nest.specs.Reduction.{Quotient, Reduces, Leaves, IsReducible, whole}
use Rattle.loop_nest.specs.Reduction.Reduces.{done, drops, merges}
use Rattle.loop_nest.proofs.Elements.{from_range, from_filter}
use Rattle.bytecode_model.specs.Program.{Program}
use Rattle.method_flow.specs.Graphs.{IsGraphOf}
use Rattle.bound_rules.specs.Bounding.{IsLeftWith}
use Rattle.flow_graph.specs.Numbering.{IsCompactOf}
use Rattle.memory_bound.specs.declared.shapes.Shape.{Shape}
use Rattle.memory_bound.specs.declared.shapes.ShapeFault.{ShapeFault}
use Rattle.memory_bound.specs.declared.shapes.ShapeFault.TheVariants.{Irreducible, NoMemory}
use Rattle.memory_bound.specs.Shapes.{node_of, all_exits, IsLeftAs, IsLeftIn, IsShapeOf, IsShapeFault}

-- ---- each node an exit

-- one number more
pub range_more : (n : ℕ) (xs : List ℕ) → xs ≡ range_with_len 0 n → xs ++ n ∷ [] ≡ range_with_len 0 (n + 1)
range_more n xs is =
    ap (λ (ys : List ℕ). ys ++ n ∷ []) is
    ∙ ap (λ (ys : List ℕ). ys ++ n ∷ []) (sym (map-id (range_with_len 0 n)))
    ∙ sym (map-range_with_len_more (λ (x : ℕ). x) 0 n n (omega arith)) ∙ map-id (range_with_len 0 (n + 1))

pub exits_digraph : (g : Digraph) → IsDigraph g → IsDigraph (all_exits g)
exits_digraph g is = record {
  entry = is.entry;
  edges = is.edges;
  exits = record {
    within = λ k d lt. from_range g.nodes (get_or (range_with_len 0 g.nodes) k d) (Contains-get_or (range_with_len 0 g.nodes) k d lt);
    rising = λ k lt.
        let long = length-range_with_len 0 g.nodes in
        let here = get_or-range_with_len 0 g.nodes k 0 (omega arith) in
        let next = get_or-range_with_len 0 g.nodes (k + 1) 0 (omega arith) in
        omega arith;
  };
}

pub digraph_of : (g : Digraph) (nodes : ℕ) (edges : List (ℕ × ℕ)) (exits : List ℕ) → IsDigraph g → nodes ≡ g.nodes → edges ≡ g.edges → exits ≡ range_with_len 0 nodes
    → IsDigraph (record { nodes = nodes; edges = edges; exits = exits })
digraph_of g nodes edges exits is same_nodes same_edges same_exits =
    let all : exits ≡ range_with_len 0 g.nodes = same_exits ∙ ap (range_with_len 0) same_nodes in
    subst (λ (n : ℕ). IsDigraph (record { nodes = n; edges = edges; exits = exits })) (sym same_nodes)
    (subst (λ (es : List (ℕ × ℕ)). IsDigraph (record { nodes = g.nodes; edges = es; exits = exits })) (sym same_edges)
    (subst (λ (us : List ℕ). IsDigraph (record { nodes = g.nodes; edges = g.edges; exits = us })) (sym all) (exits_digraph g is)))

-- ---- what the reduction leaves

pub if_err_as : {A E : Type 0} (r : Result A E) (P Q : E → Type 0) → IfErr r P → ((e : E) → P e → Q e) → IfErr r Q
if_err_as (Ok x) P Q h as' = h
if_err_as (Err e) P Q h as' = as' e h

-- the reduction keeps no node that wasn't there
kept_node : {s t : Quotient} → Reduces s t → (x : ℕ) → Contains t.nodes x → Contains s.nodes x
kept_node done x has = has
kept_node (drops p d more) x has = subst (λ (ns : List ℕ). Contains ns x) d.nodes (kept_node more x has)
kept_node (merges {s} y p m more) x has =
    (from_filter (λ a. not (a == y)) s.nodes x (subst (λ (ns : List ℕ). Contains ns x) m.nodes (kept_node more x has))).0

pub left_below : (g : Digraph) (left : List ℕ) → Leaves g left → All (λ u. u < g.nodes) left
left_below g left leaves k d lt =
    let among : Contains (0 ∷ left) (get_or left k d) = in_tail 0 (get_or left k d) left (Contains-get_or left k d lt) in
    from_range g.nodes (get_or left k d) (kept_node leaves.steps (get_or left k d) (subst (λ (ns : List ℕ). Contains ns (get_or left k d)) (sym leaves.nodes) among))

pub left_within : (g : Digraph) (nodes left us : List ℕ) → us ≡ left → length nodes ≡ g.nodes → Leaves g left → All (λ u. u < length nodes) us
left_within g nodes left us same long leaves =
    subst (λ (xs : List ℕ). All (λ u. u < length nodes) xs) (sym same) (λ k d lt. let below = left_below g left leaves k d lt in omega arith)

-- exits don't matter to the reduction
leaves_as : (g h : Digraph) (left : List ℕ) → whole h ≡ whole g → Leaves g left → Leaves h left
leaves_as g h left same leaves =
    record { last = leaves.last; steps = subst (λ (q : Quotient). Reduces q leaves.last) (sym same) leaves.steps; reduced = leaves.reduced; nodes = leaves.nodes }

pub left_in : (g d graph : Digraph) (nodes : List ℕ) → IsCompactOf g (record { graph = d; nodes = nodes }) → graph ≡ all_exits d → (left : List ℕ) → Leaves graph left → left ≢ []
    → (e : ShapeFault) → IsLeftAs (slice_index nodes) left e → IsLeftIn g e
left_in g d graph nodes compact same left leaves some (Irreducible ns) are = record {
  compact = d;
  node = slice_index nodes;
  is_compact = compact.compact;
  left = left;
  leaves = leaves_as graph d left (ap whole (sym same)) leaves;
  some = some;
  nodes_are = are;
}
left_in g d graph nodes compact same left leaves some NoMemory are = tt

pub left_of : (P : Program) (m : ℕ) (g : Digraph) → IsGraphOf P m g → (e : ShapeFault) → IsLeftIn g e → IsShapeFault P m e
left_of P m g is (Irreducible ns) h =
    (record { graph = g; is_graph = is; compact = h.compact; node = h.node; is_compact = h.is_compact; left = h.left; leaves = h.leaves; nodes_are = h.nodes_are }, λ none. h.some (none_left h.left (sym h.nodes_are ∙ none)))
  where
    none_left : (xs : List ℕ) → map h.node xs ≡ [] → xs ≡ []
    none_left [] e = refl
    none_left (x ∷ xs) e = let bad : ⊥ = cc in absurd bad
left_of P m g is NoMemory h = tt

-- the reduction of a method that has a shape leaves none
pub left_none : (P : Program) (m : ℕ) (s : Shape) → IsShapeOf P m s → IsLeftWith P m []
left_none P m s of =
    let l : IsReducible (all_exits of.shape.compact) = subst (λ (d : Digraph). IsReducible d) of.shape.graph of.shape.reducible in
    record {
      graph = of.graph;
      is_graph = of.is_graph;
      compact = of.shape.compact;
      node = node_of s;
      is_compact = of.shape.is_compact;
      left = [];
      leaves = record { last = l.last; steps = l.steps; reduced = l.reduced; nodes = l.nodes };
      nodes_are = refl;
    }
