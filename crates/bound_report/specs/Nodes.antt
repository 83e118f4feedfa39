-- The nodes of a method with their visits, their own costs and what is called at them.
use Rattle.std.specs.Prelude.{◌≡◌, ℕ, Bool, List, [], ◌∷◌, Some, slice_get, slice_index}
use Rattle.bytecode_model.specs.Program.{Program}
use Rattle.method_flow.specs.Flow.{Coded, IsCodedOf}
use Rattle.node_costs.specs.Costs.{AreOwnCosts}
use Rattle.bound_finder.specs.declared.known.Known.{Known}
use Rattle.bound_finder.specs.declared.prepared.Prepared.{Prepared}
use Rattle.bound_finder.specs.Known.{BoundSetting}
use Rattle.bound_finder.specs.Prepared.{AreWithout}
use Rattle.bound_report.specs.declared.callees.Callee.{Callee}
use Rattle.bound_report.specs.declared.counts.NodeCount.{NodeCount}
use Rattle.bound_report.specs.Callees.{callee_at, AreCalleesOf}

abbrev pub counted_node : (node visits own : ℕ) → Callee → NodeCount
counted_node u n own c = record { node = u; visits = n; own = own; target = c.target; loads = c.loads }

-- these nodes, with how often each is visited
abbrev pub counted_nodes : (own : List ℕ) → List Callee → (nodes visits : List ℕ) → List NodeCount
counted_nodes own cs [] ns = []
counted_nodes own cs (u ∷ us) [] = []
counted_nodes own cs (u ∷ us) (n ∷ ns) = counted_node u n (slice_index own u) (callee_at cs u) ∷ counted_nodes own cs us ns

-- the nodes of the method m, as it was prepared
pub record AreNodesOf (set : BoundSetting) (m : ℕ) (table : List Known) (p : Prepared) (visits : List ℕ) (nodes : List NodeCount) : Type 0 where
  pub own : List ℕ
  pub owned : (P : Program) (k : Coded) → slice_get set.flow.methods m ≡ Some k → IsCodedOf P m k → AreOwnCosts P set.timing m k.code own
  pub without : List Bool
  pub are_without : AreWithout p.fits p.shape p.charges.flags.items without
  pub callees : List Callee
  pub are_callees : AreCalleesOf set m table without callees
  pub are : nodes ≡ counted_nodes own callees p.shape.nodes visits
