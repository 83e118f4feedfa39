-- The edges of a method where some of its calls don't go on to the instruction behind them (JVM Specification SE 8, 2.6.4 and 2.6.5).
use Rattle.std.specs.Prelude.{◌≡◌, ◌↔◌, ℕ, ◌<◌, Bool, true, false, List, length, Some, slice_get, slice_index_or, slice_set}
use Rattle.bytecode_model.specs.Program.{Program}
use Rattle.method_flow.specs.declared.flow.Call.{Call}
use Rattle.method_flow.specs.Nodes.{Node, At, IsEdge}

-- the flag of each of the calls that stands at the place is true
abbrev pub CallsGoOn : List Call → (goes : List Bool) → (place : ℕ) → Type 0
CallsGoOn calls goes p = (i : ℕ) (c : Call) → slice_get calls i ≡ Some c → c.place ≡ p → slice_get goes i ≡ Some true

-- An instruction leads to another one where the calls at its place go on. Nothing is asked of the edges to a raise step and from one.
abbrev pub GoesWhere : List Call → List Bool → Node → Node → Type 0
GoesWhere calls goes (At p) (At q) = CallsGoOn calls goes p
GoesWhere calls goes u v = Unit {0}

-- an edge of the method where the calls whose flags are false don't go on; such a call keeps its edge to the raise step
pub record IsEdgeWhere (P : Program) (m : ℕ) (calls : List Call) (goes : List Bool) (u v : Node) : Type 0 where
  pub edge : IsEdge P m u v
  pub goes_on : GoesWhere calls goes u v

-- for each of so many places, whether the calls there go on
pub record AreGoingOn (calls : List Call) (goes : List Bool) (size : ℕ) (flags : List Bool) : Type 0 where
  pub long : length flags ≡ size
  pub each : (p : ℕ) → p < size → (slice_index_or flags p false ≡ true) ↔ CallsGoOn calls goes p

-- flags once it is noted whether a call goes on
abbrev pub noted : List Bool → Call → (goes : Bool) → List Bool
noted flags c true = flags
noted flags c false = slice_set flags c.place false
