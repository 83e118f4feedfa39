-- Graphs of methods exist.
use Rattle.std.specs.Prelude.{◌≡◌, ℕ, Some, IsSome}
use Rattle.loop_nest.specs.Digraph.{Digraph}
use Rattle.opcodes.specs.Start.{IsStart}
use Rattle.bytecode_model.specs.Program.{Program, Body, body_of}
use Rattle.bytecode_model.specs.Steps.{row_in}
use Rattle.bytecode_typing.specs.Typed.{Typing, Typed}
use Rattle.method_flow.specs.Nodes.{At, IsEdge, IsReached}
use Rattle.method_flow.specs.Graphs.{IsGraphOf, IsLiveGraph}

-- In a typed program control comes from a method's first instruction to instructions of its code alone (JVM Specification SE 8, 4.10.1.6).
abbrev pub TypedMethodsReachStarts : Type 0
TypedMethodsReachStarts = (P : Program) (types : Typing) → Typed P types → (m : ℕ) (b : Body) → body_of P m ≡ Some b → (p : ℕ) → IsReached (IsEdge P m) (At p)
    → IsStart b.code p

-- each of them has a row
abbrev pub TypedMethodsReachRows : Type 0
TypedMethodsReachRows = (P : Program) (types : Typing) → Typed P types → (m : ℕ) (b : Body) → body_of P m ≡ Some b → (p : ℕ) → IsReached (IsEdge P m) (At p)
    → IsSome (row_in P m p)

-- So a method with code has a graph. No test here tells which nodes are reached, so it is said that there can't be none.
abbrev pub MethodGraphsExist : Type 0
MethodGraphsExist = (P : Program) (types : Typing) → Typed P types → (m : ℕ) (b : Body) → body_of P m ≡ Some b → ¬ ¬ ((g : Digraph) × IsGraphOf P m g)

-- and a live graph; whether a run can take an edge behind an invoke is told by which methods can end
abbrev pub LiveGraphsExist : Type 0
LiveGraphsExist = (P : Program) (types : Typing) → Typed P types → (m : ℕ) (b : Body) → body_of P m ≡ Some b → ¬ ¬ ((g : Digraph) × IsLiveGraph P m g)
