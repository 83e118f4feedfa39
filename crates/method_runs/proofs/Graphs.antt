-- Walks of a method are walks of its graph.
use Rattle.std.proofs.Common.{ℕ, List, [], ◌∷◌, ◌++◌, refl}
use Rattle.bytecode_model.specs.Program.{Program}
use Rattle.loop_nest.specs.Digraph.{Digraph, Edge}
use Rattle.loop_nest.specs.Walks.{Walk}
use Rattle.loop_nest.specs.Walks.Walk.{stay, along}
use Rattle.method_flow.specs.Nodes.{Node, number_of, IsEdge, IsReached}
use Rattle.method_flow.specs.Nodes.IsReached.{first, later}
use Rattle.method_flow.specs.Graphs.{IsGraphOf}
use Rattle.method_runs.specs.Standing.{MethodWalk}
use Rattle.method_runs.specs.Standing.MethodWalk.{starts, goes}
use Rattle.method_runs.specs.Laws.{WalksAreOfGraphs}

walk_more : {g : Digraph} {u v w : ℕ} {ns : List ℕ} → Walk g u v ns → Edge g v w → Walk g u w (ns ++ w ∷ [])
walk_more (stay) edge = along edge stay
walk_more (along e rest) edge = along e (walk_more rest edge)

reached : {P : Program} {m : ℕ} {u : Node} {ns : List ℕ} → MethodWalk P m u ns → IsReached (IsEdge P m) u
reached (starts) = first
reached (goes walk edge) = later (reached walk) edge

is_walk : {P : Program} {m : ℕ} {u : Node} {ns : List ℕ} → MethodWalk P m u ns → (g : Digraph) → IsGraphOf P m g → Walk g 0 (number_of u) ns
is_walk (starts) g of = stay
is_walk (goes {u} {v} walk edge) g of =
    walk_more (is_walk walk g of) ((of.edges (number_of u) (number_of v)).1 (record { source = u; target = v; reached = reached walk; edge = edge; numbered = (refl, refl) }))

pub walks_are_of_graphs : WalksAreOfGraphs
walks_are_of_graphs P m u ns walk = (reached walk, is_walk walk)
