-- What the nodes of a method cost, with what the methods add that its invokes may run.
use Rattle.std.specs.Prelude.{◌≡◌, ℕ, ◌+◌, nat_lt, if◌then◌else◌, List, [], ◌∷◌, length, slice_index, Option, Some, None, unwrap_or}
use Rattle.loop_nest.specs.Digraph.{Digraph}
use Rattle.bytecode_model.specs.Program.{Program}
use Rattle.method_flow.specs.Nodes.{Node, At, RaiseAt, number_of, IsReached}
use Rattle.method_flow.specs.Calls.{targets_of}
use Rattle.method_flow.specs.declared.timing.Timing.{Timing}
use Rattle.method_flow.specs.Costs.{IsOwnCost}

-- the greater of two values, of which one that is none is less than each number
abbrev pub greater : Option ℕ → Option ℕ → Option ℕ
greater None b = b
greater (Some m) None = Some m
greater (Some m) (Some n) = Some (if nat_lt m n then n else m)

-- the greatest of the values of these methods, or none where each has none
abbrev pub greatest_of : (value : ℕ → Option ℕ) → List ℕ → Option ℕ
greatest_of value [] = None
greatest_of value (t ∷ ts) = greater (value t) (greatest_of value ts)

-- What the methods that an instruction may run add to its cost: the greatest of their values. It adds nothing where it is no invoke, has no target,
-- or none of its targets has a value.
abbrev pub added : Program → (method place : ℕ) → (value : ℕ → Option ℕ) → ℕ
added P m p value = unwrap_or (greatest_of value (targets_of P m p)) 0

-- what is added at a node, where so much is added at each place; at a raise step nothing
abbrev pub added_at : (adds : ℕ → ℕ) → Node → ℕ
added_at adds (At p) = adds p
added_at adds (RaiseAt p) = 0

-- The costs of the nodes that these edges reach, by their numbers in the graph, where so much is added at each place. A number that is no such node
-- may have any cost.
pub record AreCosts (P : Program) (t : Timing) (m : ℕ) (IsEdgeIn : Node → Node → Type 0) (adds : ℕ → ℕ) (g : Digraph) (costs : List ℕ) : Type 0 where
  pub long : length costs ≡ g.nodes
  pub each : (u : Node) → IsReached IsEdgeIn u → (own : ℕ) × IsOwnCost P t m u own × (slice_index costs (number_of u) ≡ own + added_at adds u)
