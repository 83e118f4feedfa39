-- When a walk of a method keeps the bounds that are given for its loops.
use Rattle.std.specs.Prelude.{◌≡◌, ℕ, ◌*◌, List, Some}
use Rattle.std.specs.declared.option.Option.{Option}
use Rattle.loop_nest.specs.Digraph.{Digraph}
use Rattle.loop_nest.specs.Walks.{KeepsBound}
use Rattle.bytecode_model.specs.Program.{Program}
use Rattle.method_flow.specs.Graphs.{IsLiveGraph}

-- the bound of the loop of a method whose header is the instruction at a place, where one is given
abbrev pub BoundOf : Type 0
BoundOf = (method place : ℕ) → Option ℕ

-- The walk keeps the bounds that are given for the loops of the method's live graph; a loop without a bound may take any number of back edges.
abbrev pub WalkKeeps : Program → BoundOf → (method : ℕ) → List ℕ → Type 0
WalkKeeps P bound_of m ns = (g : Digraph) → IsLiveGraph P m g → (p bound : ℕ) → bound_of m p ≡ Some bound → KeepsBound g (2 * p) bound ns
