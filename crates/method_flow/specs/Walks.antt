-- Steps go along edges: what a frame does, from its first instruction until it is left, is a walk of its method's graph that ends at an exit.
use Rattle.std.specs.Prelude.{◌↔◌, ℕ, List}
use Rattle.bytecode_model.specs.declared.Ending.{Ending}
use Rattle.bytecode_model.specs.State.{Frame, State}
use Rattle.bytecode_model.specs.Program.{Program}
use Rattle.method_flow.specs.Nodes.{At, MayRaise, IsExit}
use Rattle.method_flow.specs.Calls.{IsCall, IsTarget}
use Rattle.method_flow.specs.Live.{CanEnd, IsLiveEdge, LiveWalk}
use Rattle.method_flow.specs.Shapes.{node_of, Moves, Returns, Drops}

-- a step within a method goes along an edge that a run can take
abbrev pub MovesAreLive : Type 0
MovesAreLive = (P : Program) (mode : Ending) (f : Frame) (callers : List Frame) (t : State) (moves : Moves P mode f callers t)
    → IsLiveEdge P f.method (node_of mode f) (node_of t.mode moves.top)

-- a frame is left at an exit
abbrev pub ReturnsAreExits : Type 0
ReturnsAreExits = (P : Program) (mode : Ending) (f : Frame) (callers : List Frame) (t : State) → Returns P mode f callers t → IsExit P f.method (node_of mode f)

abbrev pub DropsAreExits : Type 0
DropsAreExits = (P : Program) (mode : Ending) (f : Frame) (callers : List Frame) (t : State) → Drops P mode f callers t → IsExit P f.method (node_of mode f)

-- Where a frame is left by a return, its caller goes along an edge behind the invoke at which it waited; a run can take it where the invoke may run
-- the frame's method and that can end.
abbrev pub CallersReturn : Type 0
CallersReturn = (P : Program) (mode : Ending) (f : Frame) (callers : List Frame) (t : State) (returns : Returns P mode f callers t)
    → IsCall P returns.caller.method returns.caller.pc
    → IsTarget P returns.caller.method returns.caller.pc f.method → CanEnd P f.method
    → IsLiveEdge P returns.caller.method (At returns.caller.pc) (node_of t.mode returns.top)

-- where it is dropped, its caller goes along the edge to the raise step at its invoke
abbrev pub CallersRaise : Type 0
CallersRaise = (P : Program) (mode : Ending) (f : Frame) (callers : List Frame) (t : State) (drops : Drops P mode f callers t)
    → MayRaise P drops.caller.method drops.caller.pc
    → IsLiveEdge P drops.caller.method (At drops.caller.pc) (node_of t.mode drops.top)

-- a method can end exactly where a walk that a run can take leads from its first instruction to an exit
abbrev pub EndingIsAWalk : Type 0
EndingIsAWalk = (P : Program) (m : ℕ) → CanEnd P m ↔ ((ns : List ℕ) × LiveWalk P m (At 0) ns)
