-- The nodes of a live graph have costs.
use Rattle.std.proofs.Common.{◌≡◌, ℕ, ◌+◌, ◌<◌, List, refl, sym, ap, ◌∙◌, subst, arith}
use Rattle.loop_nest.specs.Digraph.{Digraph}
use Rattle.loop_nest.proofs.Ends.{ends_within}
use Rattle.bytecode_model.specs.Program.{Program}
use Rattle.method_flow.specs.Nodes.{Node, At, RaiseAt, number_of, IsReached}
use Rattle.method_flow.specs.Nodes.IsReached.{first, later}
use Rattle.method_flow.specs.Graphs.{IsGraphBy}
use Rattle.method_flow.specs.declared.timing.Timing.{Timing}
use Rattle.method_flow.specs.Costs.{IsOwnCost}
use Rattle.bound_rules.specs.Costs.{added_at, AreCosts}
use Rattle.bound_laws.proofs.Choosing.{chosen}

-- a node is told by its number
pub one_node : (u v : Node) → number_of u ≡ number_of v → u ≡ v
one_node (At p) (At q) e = let same : p ≡ q = omega arith in ap At same
one_node (At p) (RaiseAt q) e = absurd (omega arith)
one_node (RaiseAt p) (At q) e = absurd (omega arith)
one_node (RaiseAt p) (RaiseAt q) e = let same : p ≡ q = omega arith in ap RaiseAt same

module _ (P : Program) (t : Timing) (m : ℕ) (IsEdgeIn : Node → Node → Type 0) (g : Digraph) (is : IsGraphBy IsEdgeIn P m g) (own : (u : Node) → IsReached IsEdgeIn u → (c : ℕ) × IsOwnCost P t m u c) (adds : ℕ → ℕ) where
  abbrev IsCostAt : ℕ → ℕ → Type 0
  IsCostAt x cost = (u : Node) → IsReached IsEdgeIn u → number_of u ≡ x → (c : ℕ) × IsOwnCost P t m u c × (cost ≡ c + added_at adds u)

  reached_below : {u : Node} → IsReached IsEdgeIn u → number_of u < g.nodes
  reached_below first = is.digraph.entry
  reached_below (later {u} {v} r e) =
      (ends_within is.digraph (number_of u) (number_of v) ((is.edges (number_of u) (number_of v)).1 (record { source = u; target = v; reached = r; edge = e; numbered = (refl, refl) }))).1

  some_cost : (x : ℕ) → ((c : ℕ) × IsCostAt x c → ⊥) → ⊥
  some_cost x missing = missing (0, λ u reached at. absurd (missing (here u reached at)))
    where
      here : (u : Node) → IsReached IsEdgeIn u → number_of u ≡ x → (c : ℕ) × IsCostAt x c
      here u reached at =
          let c = own u reached in (
            c.0 + added_at adds u,
            λ v reached' at'. let same = one_node u v (at ∙ sym at') in
                subst (λ (w : Node). (d : ℕ) × IsOwnCost P t m w d × (c.0 + added_at adds u ≡ d + added_at adds w)) same (c.0, c.1, refl),
          )

  pub costs_exist : ((costs : List ℕ) × AreCosts P t m IsEdgeIn adds g costs → ⊥) → ⊥
  costs_exist none =
      chosen 0 IsCostAt g.nodes (λ x lt. some_cost x) (λ r. none (
        r.items,
        record {
          long = r.long;
          each = λ u reached. r.each (number_of u) (reached_below reached) u reached refl;
        },
      ))
