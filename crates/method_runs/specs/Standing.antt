-- Frames stand at the ends of their walks.
use Rattle.std.specs.Prelude.{◌≡◌, ℕ, List, [], ◌∷◌, ◌++◌, Some, None}
use Rattle.std.specs.declared.option.Option.{Option}
use Rattle.bytecode_model.specs.declared.Ending.{Ending}
use Rattle.bytecode_model.specs.declared.Ending.TheVariants.{Running, Raising, Ended, Uncaught}
use Rattle.bytecode_model.specs.State.{Frame}
use Rattle.bytecode_model.specs.Program.{Program}
use Rattle.method_flow.specs.Nodes.{Node, At, RaiseAt, number_of, IsEdge, MayRaise}
use Rattle.method_flow.specs.Calls.{IsCall, IsTarget}
use Rattle.method_runs.specs.Runs.{Walks}

-- a walk along edges of the method from its first instruction to a node, and the numbers of its nodes
pub data MethodWalk (P : Program) (m : ℕ) : Node → List ℕ → Type 0 where
  starts : MethodWalk P m (At 0) (0 ∷ [])
  goes : {u v : Node} {ns : List ℕ} → MethodWalk P m u ns → IsEdge P m u v → MethodWalk P m v (ns ++ number_of v ∷ [])

-- the last node of the top frame: once the program has ended, that from which it ended
abbrev pub last_node : Ending → Frame → Node
last_node Running f = At f.pc
last_node (Raising p) f = RaiseAt f.pc
last_node Ended f = At f.pc
last_node (Uncaught c) f = RaiseAt f.pc

-- a frame's walk, if it is known, leads to the node
abbrev pub WalksTo : Program → Frame → Node → Option (List ℕ) → Type 0
WalksTo P f u None = Unit {0}
WalksTo P f u (Some ns) = MethodWalk P f.method u ns

-- the method of a frame whose walk is known
abbrev pub made_of : Frame → Option (List ℕ) → Option ℕ
made_of f None = None
made_of f (Some ns) = Some f.method

-- The frame waits below one that was made since, of this method, at an invoke that may run it. Below a frame whose walk isn't known no walk is.
abbrev pub IsBelow : Program → (above : Option ℕ) → Frame → Option (List ℕ) → Type 0
IsBelow P None f w = w ≡ None
IsBelow P (Some m) f w = IsCall P f.method f.pc × MayRaise P f.method f.pc × IsTarget P f.method f.pc m

-- frames that wait, each at its invoke
abbrev pub Waiting : Program → (above : Option ℕ) → List Frame → Walks → Type 0
Waiting P above [] [] = Unit {0}
Waiting P above (f ∷ fs) (w ∷ ws) = WalksTo P f (At f.pc) w × IsBelow P above f w × Waiting P (made_of f w) fs ws
Waiting P above fs ws = ⊥

-- the frames of a state, with a walk for each
abbrev pub Standing : Program → Ending → List Frame → Walks → Type 0
Standing P mode (f ∷ fs) (w ∷ ws) = WalksTo P f (last_node mode f) w × Waiting P (made_of f w) fs ws
Standing P mode fs ws = ⊥
