-- The nodes of a compact graph are those that a run can come to.
use Rattle.std.proofs.Common.{◌≡◌, ◌↔◌, ℕ, ◌<◌, List, [], ◌∷◌, map, Contains, refl, sym, ◌∙◌, subst}
use Rattle.loop_nest.specs.Digraph.{Digraph, Edge}
use Rattle.loop_nest.specs.Walks.{Walk, IsReachable}
use Rattle.loop_nest.specs.Walks.Walk.{stay, along}
use Rattle.loop_nest.proofs.Ends.{walk_on}
use Rattle.path_solver.specs.Reaching.{ReachesExit}
use Rattle.bytecode_model.specs.Program.{Program}
use Rattle.method_flow.specs.Compact.{IsCompact}
use Rattle.method_flow.specs.Graphs.{IsLiveGraph}
use Rattle.method_flow.specs.Live.{CanEnd, IsLiveEdge, LiveWalk}
use Rattle.method_flow.specs.Live.LiveWalk.{stops, along as live_along}
use Rattle.method_flow.specs.Nodes.{Node, At, number_of, IsExit, IsReached}
use Rattle.method_flow.specs.Nodes.IsReached.{first, later}
use Rattle.method_flow.specs.Walks.{EndingIsAWalk}
use Rattle.flow_graph.proofs.Cutting.{same_node}

module _ (P : Program) (m : ℕ) (g : Digraph) (live : IsLiveGraph P m g) where
  pub reachable : {u : Node} → IsReached (IsLiveEdge P m) u → IsReachable g (number_of u)
  reachable first = (0 ∷ [], stay)
  reachable (later {u} {v} r e) =
      let before = reachable r in
      let edge : Edge g (number_of u) (number_of v) = (live.edges (number_of u) (number_of v)).1 (record { source = u; target = v; reached = r; edge = e; numbered = (refl, refl) }) in
      walk_on before.1 (along edge stay)

  -- a walk from a node that is reached ends at one
  end_reached : {u v : ℕ} {ns : List ℕ} → Walk g u v ns → (n : Node) → IsReached (IsLiveEdge P m) n → u ≡ number_of n → (k : Node) × IsReached (IsLiveEdge P m) k × (v ≡ number_of k)
  end_reached (stay {u}) n reached is = (n, reached, is)
  end_reached (along {u} {v} e more) n reached is = let r = (live.edges u v).0 e in end_reached more r.target (later r.reached r.edge) r.numbered.1

  pub node_of_number : (x : ℕ) → IsReachable g x → (k : Node) × IsReached (IsLiveEdge P m) k × (x ≡ number_of k)
  node_of_number x reach = end_reached reach.1 (At 0) first refl

module _ (g d : Digraph) (node : ℕ → ℕ) (compact : IsCompact g d node) where
  walk_out : {u v : ℕ} {ns : List ℕ} → Walk d u v ns → Walk g (node u) (node v) (map node ns)
  walk_out stay = stay
  walk_out (along {u} {v} e more) = let r = (compact.edges u v).0 e in along r.2 (walk_out more)

  pub reachable_out : (u : ℕ) → u < d.nodes → IsReachable g (node u)
  reachable_out u below =
      let r = compact.reached u below in
      (map node r.0, subst (λ (x : ℕ). Walk g x (node u) (map node r.0)) compact.entry (walk_out r.1))

-- ---- ends

module _ (P : Program) (m : ℕ) (g : Digraph) (live : IsLiveGraph P m g) where
  exit_of_walk : {u : Node} {ns : List ℕ} → LiveWalk P m u ns → IsReached (IsLiveEdge P m) u → ReachesExit g (number_of u)
  exit_of_walk (stops {u} exit) reached =
      record { exit = number_of u; among = (live.exits (number_of u)).1 (record { node = u; reached = reached; exit = exit; numbered = refl }); nodes = number_of u ∷ []; walk = stay }
  exit_of_walk (live_along {u} {v} e more) reached =
      let rest = exit_of_walk more (later reached e) in
      let edge : Edge g (number_of u) (number_of v) = (live.edges (number_of u) (number_of v)).1 (record { source = u; target = v; reached = reached; edge = e; numbered = (refl, refl) }) in
      record { exit = rest.exit; among = rest.among; nodes = number_of u ∷ rest.nodes; walk = along edge rest.walk }

  walk_of_exit : {u v : ℕ} {ns : List ℕ} → Walk g u v ns → Contains g.exits v → (n : Node) → u ≡ number_of n → (ms : List ℕ) × LiveWalk P m n ms
  walk_of_exit (stay {u}) exit n is =
      let r = (live.exits u).0 exit in
      let same = same_node r.node n (sym r.numbered ∙ is) in
      (number_of n ∷ [], stops (subst (λ (w : Node). IsExit P m w) same r.exit))
  walk_of_exit (along {u} {v} e more) exit n is =
      let r = (live.edges u v).0 e in
      let same = same_node r.source n (sym r.numbered.0 ∙ is) in
      let rest = walk_of_exit more exit r.target r.numbered.1 in
      (number_of n ∷ rest.0, live_along (subst (λ (w : Node). IsLiveEdge P m w r.target) same r.edge) rest.1)

  -- a method can end exactly where an exit is reached in its live graph
  pub ends_at_exit : EndingIsAWalk → CanEnd P m ↔ ReachesExit g 0
  ends_at_exit ending = (λ ends. let w = (ending P m).0 ends in exit_of_walk w.1 first, λ reach. (ending P m).1 (walk_of_exit reach.walk reach.among (At 0) refl))
