-- The walk of each frame of a run so far: the nodes of its method's graph at which it was the top one (JVM Specification SE 8, 2.6 and 2.10).
use Rattle.std.specs.Prelude.{ℕ, zero, suc, nat_lt, if◌then◌else◌, List, [], ◌∷◌, ◌++◌, length, map, drop, Some, None}
use Rattle.std.specs.declared.option.Option.{Option}
use Rattle.bytecode_model.specs.declared.Ending.{Ending}
use Rattle.bytecode_model.specs.declared.Ending.TheVariants.{Running, Raising}
use Rattle.bytecode_model.specs.State.{Frame, State}
use Rattle.bytecode_model.specs.Program.{Program, Limits}
use Rattle.bytecode_model.specs.Steps.{run_from}
use Rattle.method_flow.specs.Nodes.{number_of}
use Rattle.method_flow.specs.Shapes.{node_of}

-- the number of the node at which the top frame stands, while the program goes on
abbrev pub nodes_now : Ending → List Frame → List ℕ
nodes_now Running (f ∷ fs) = number_of (node_of Running f) ∷ []
nodes_now (Raising p) (f ∷ fs) = number_of (node_of (Raising p) f) ∷ []
nodes_now mode fs = []

-- for each frame, the top one first, its nodes since it was made, in order; none for a frame that was there before
abbrev pub Walks : Type 0
Walks = List (Option (List ℕ))

abbrev pub with_nodes : List ℕ → Option (List ℕ) → Option (List ℕ)
with_nodes more None = None
with_nodes more (Some ns) = Some (ns ++ more)

abbrev pub on_top : List ℕ → Walks → Walks
on_top more [] = []
on_top more (w ∷ ws) = with_nodes more w ∷ ws

-- after a step, by the numbers of frames before and after it: a frame was made, or was left, or neither
abbrev pub followed : (before after : ℕ) → (nodes : List ℕ) → Walks → Walks
followed before after nodes ws =
    if nat_lt before after then Some nodes ∷ ws else if nat_lt after before then on_top nodes (drop 1 ws) else on_top nodes ws

abbrev pub walks_after : State → State → Walks → Walks
walks_after s t ws = followed (length s.frames) (length t.frames) (nodes_now t.mode t.frames) ws

-- the walks after so many steps of a run from a state
unfoldable pub walks_from : Program → Limits → (input : ℕ → Option ℕ) → State → Walks → ℕ → Walks
walks_from P limits input s ws zero = ws
walks_from P limits input s ws (suc n) =
    walks_after (run_from P limits input s n) (run_from P limits input s (suc n)) (walks_from P limits input s ws n)

-- the walk of the first frame in the boot state
abbrev pub boot_walks : Walks
boot_walks = Some (0 ∷ []) ∷ []

-- of the frames that are there already nothing is known
abbrev pub unknown_walks : State → Walks
unknown_walks s = map (λ (f : Frame). None) s.frames
