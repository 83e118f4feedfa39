-- How the graph by the edges of a method's code stands to the method's graph in a program.
use Rattle.std.specs.Prelude.{◌≡◌, ℕ, Bool, true, List, Some, slice_get}
use Rattle.loop_nest.specs.Digraph.{Digraph}
use Rattle.bytecode_model.specs.Program.{Program}
use Rattle.method_flow.specs.declared.flow.Call.{Call}
use Rattle.method_flow.specs.Flow.{Coded, IsCoded, IsCodedOf}
use Rattle.method_flow.specs.Graphs.{IsGraphBy, IsGraphOf}
use Rattle.flow_graph.specs.Edges.{IsCodeGraph}
use Rattle.flow_graph.specs.Where.{IsEdgeWhere}

-- the graph by the edges of the code of a program's method is the method's graph where the same calls go on
abbrev pub CodeGraphsAreGraphs : Type 0
CodeGraphsAreGraphs = (P : Program) (n : ℕ) (k : Coded) (goes : List Bool) (g : Digraph) → IsCoded k → IsCodedOf P n k → IsCodeGraph k goes g
    → IsGraphBy (IsEdgeWhere P n k.calls goes) P n g

-- it is the graph of each method that has this code, where the same calls go on
abbrev pub IsGraphWhere : Coded → (goes : List Bool) → Digraph → Type 0
IsGraphWhere k goes g = (P : Program) (n : ℕ) → IsCodedOf P n k → IsGraphBy (IsEdgeWhere P n k.calls goes) P n g

-- where all calls go on, that is the method's graph
abbrev pub GraphsWhereAllGoOn : Type 0
GraphsWhereAllGoOn =
    (P : Program) (n : ℕ) (calls : List Call) (goes : List Bool) (g : Digraph)
    → ((i : ℕ) (c : Call) → slice_get calls i ≡ Some c → slice_get goes i ≡ Some true)
    → IsGraphBy (IsEdgeWhere P n calls goes) P n g → IsGraphOf P n g
