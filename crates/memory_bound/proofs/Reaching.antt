-- The nodes of a method's graph that are reached, by their numbers, and its compact graph.
use Rattle.std.proofs.Common.{◌≡◌, ℕ, ◌*◌, List, [], ◌∷◌, Some, refl, sym, subst}
use Rattle.std.specs.Prelude.{slice_get}
use Rattle.lists.proofs.Lemmas.{some_in}
use Rattle.opcodes.specs.Start.{IsStart, AreStarts}
use Rattle.loop_nest.specs.Digraph.{Digraph, Edge}
use Rattle.loop_nest.specs.Walks.{Walk, IsReachable}
use Rattle.loop_nest.specs.Walks.Walk.{stay, along}
use Rattle.loop_nest.proofs.Ends.{walk_on}
use Rattle.bytecode_model.specs.Program.{Program, body_of}
use Rattle.method_flow.specs.Calls.{IsStartOf}
use Rattle.method_flow.specs.Flow.{Flow, Coded, IsCoded, IsCodedOf, IsFlowOf}
use Rattle.method_flow.specs.Graphs.{IsGraphOf}
use Rattle.method_flow.specs.Kinds.{RowsAreOfTheirKinds}
use Rattle.method_flow.specs.Nodes.{Node, At, number_of, IsEdge, IsReached}
use Rattle.method_flow.specs.Nodes.IsReached.{first, later}
use Rattle.flow_graph.proofs.Cutting.{same_node}
use Rattle.flow_graph.proofs.Joining.{reached_alike}
use Rattle.flow_graph.proofs.Starting.{IsPlaced, body, first_placed, next_placed}
use Rattle.bound_rules.specs.Laws.{ReachesStarts}

-- control stays at instructions
pub reaches_starts : ((code : List ℕ) → AreStarts code) → RowsAreOfTheirKinds → (P : Program) (f : Flow) (m : ℕ) (k : Coded) → IsFlowOf P f → slice_get f.methods m ≡ Some k → IsCoded k → ReachesStarts P m
reaches_starts starts kinds P f m k of is c q r =
    let coded : IsCodedOf P m k = of.methods m k is in
    let placed = reached_alike (IsEdge P m) (IsEdge P m) (IsPlaced k) (first_placed starts kinds P m k c coded) (λ s t at e. (e, next_placed starts kinds P m k c coded s t at e)) r in
    let b = body starts kinds P m k c coded in
    let start : IsStart k.code q = placed.1 in
    some_in (body_of P m) b.0 (λ z. IsStart z.code q) b.1 (subst (λ (xs : List ℕ). IsStart xs q) (sym b.2.0) start)

module _ (P : Program) (m : ℕ) (g : Digraph) (is : IsGraphOf P m g) where
  pub reachable : {u : Node} → IsReached (IsEdge P m) u → IsReachable g (number_of u)
  reachable first = (0 ∷ [], stay)
  reachable (later {u} {v} r e) =
      let before = reachable r in
      let edge : Edge g (number_of u) (number_of v) = (is.edges (number_of u) (number_of v)).1 (record { source = u; target = v; reached = r; edge = e; numbered = (refl, refl) }) in
      walk_on before.1 (along edge stay)

  -- a walk from a node that is reached ends at one
  end_reached : {u v : ℕ} {ns : List ℕ} → Walk g u v ns → (n : Node) → IsReached (IsEdge P m) n → u ≡ number_of n → (k : Node) × IsReached (IsEdge P m) k × (v ≡ number_of k)
  end_reached (stay {u}) n reached at = (n, reached, at)
  end_reached (along {u} {v} e more) n reached at = let r = (is.edges u v).0 e in end_reached more r.target (later r.reached r.edge) r.numbered.1

  pub node_of_number : (x : ℕ) → IsReachable g x → (k : Node) × IsReached (IsEdge P m) k × (x ≡ number_of k)
  node_of_number x reach = end_reached reach.1 (At 0) first refl

  -- an instruction that is reached begins at a start
  pub start_reached : ReachesStarts P m → (p : ℕ) → IsReachable g (2 * p) → IsStartOf P m p
  start_reached starts p reach =
      let r = node_of_number (2 * p) reach in
      let same : At p ≡ r.0 = same_node (At p) r.0 r.2 in
      starts p (subst (λ (k : Node). IsReached (IsEdge P m) k) (sym same) r.1)

  -- edges lead from reached nodes
  pub source_is_reached : (u v : ℕ) → Edge g u v → IsReachable g u
  source_is_reached u v e =
      let r = (is.edges u v).0 e in
      subst (λ (x : ℕ). IsReachable g x) (sym r.numbered.0) (reachable r.reached)
