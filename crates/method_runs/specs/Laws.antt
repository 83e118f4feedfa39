-- What is proved of the walks of frames.
use Rattle.std.specs.Prelude.{◌≡◌, ◌⊎◌, ℕ, suc, List, ◌∷◌, Some}
use Rattle.std.specs.declared.option.Option.{Option}
use Rattle.bytecode_model.specs.State.{Frame, State}
use Rattle.bytecode_model.specs.Program.{Program, Limits}
use Rattle.bytecode_model.specs.Steps.{step, run_from, boot_state}
use Rattle.bytecode_model.specs.WellFormed.{IsInput}
use Rattle.bytecode_typing.specs.Typed.{Typing, Typed}
use Rattle.bytecode_typing.specs.Lawful.{Lawful}
use Rattle.bytecode_typing.specs.Fits.{Fits}
use Rattle.loop_nest.specs.Digraph.{Digraph}
use Rattle.loop_nest.specs.Walks.{Walk}
use Rattle.method_flow.specs.Nodes.{Node, number_of, IsEdge, IsReached}
use Rattle.method_flow.specs.Graphs.{IsGraphOf}
use Rattle.method_runs.specs.Runs.{Walks, walks_after, walks_from, boot_walks, unknown_walks}
use Rattle.method_runs.specs.Standing.{MethodWalk, Standing}
use Rattle.method_runs.specs.Steps.{WalksStep, Stepped, Stayed}

-- a walk of a method comes to nodes that are reached, and is a walk of the method's graph
abbrev pub WalksAreOfGraphs : Type 0
WalksAreOfGraphs =
    (P : Program) (m : ℕ) (u : Node) (ns : List ℕ) → MethodWalk P m u ns
    → IsReached (IsEdge P m) u × ((g : Digraph) → IsGraphOf P m g → Walk g 0 (number_of u) ns)

-- where frames stand at the ends of their walks, a step makes a frame, leaves one, goes along an edge or ends the program, and they still do
abbrev pub StepsFollowWalks : Type 0
StepsFollowWalks =
    (P : Program) (types : Typing) (limits : Limits) (answer : Option ℕ) (s t : State) (f : Frame) (callers : List Frame) (ws : Walks) → Lawful P
    → Typed P types
    → Fits P types limits s → s.frames ≡ f ∷ callers → step P limits answer s ≡ Some t → Standing P s.mode s.frames ws
    → WalksStep P s.mode f callers t ws (walks_after s t ws) × Standing P t.mode t.frames (walks_after s t ws)

-- the input gives bytes, and its end
abbrev pub GivesBytes : (ℕ → Option ℕ) → Type 0
GivesBytes input = (k : ℕ) → IsInput (input k)

-- what is so of a run and of the walks of its frames, at each number of steps
pub record HasWalks (P : Program) (types : Typing) (limits : Limits) (input : ℕ → Option ℕ) (s : State) (ws : Walks) (n : ℕ) : Type 0 where
  pub fits : Fits P types limits (run_from P limits input s n)
  pub standing : Standing P (run_from P limits input s n).mode (run_from P limits input s n).frames (walks_from P limits input s ws n)
  pub next :
      Stepped P limits (run_from P limits input s n) (run_from P limits input s (suc n)) (walks_from P limits input s ws n)
      (walks_from P limits input s ws (suc n))
      ⊎ Stayed (run_from P limits input s n) (run_from P limits input s (suc n)) (walks_from P limits input s ws n) (walks_from P limits input s ws (suc n))

-- Along each run from a state that fits, where the frames stand at the ends of their walks, they always do.
abbrev pub RunsHaveWalks : Type 0
RunsHaveWalks =
    (P : Program) (types : Typing) (limits : Limits) (input : ℕ → Option ℕ) (s : State) (ws : Walks) → Lawful P → Typed P types → GivesBytes input
    → Fits P types limits s
    → Standing P s.mode s.frames ws → (n : ℕ) → HasWalks P types limits input s ws n

-- so where nothing is known of the frames that are there,
abbrev pub UnknownWalksStand : Type 0
UnknownWalksStand = (P : Program) (types : Typing) (limits : Limits) (s : State) → Fits P types limits s → Standing P s.mode s.frames (unknown_walks s)

-- and from the boot state, whose frame has come to its first instruction alone
abbrev pub BootWalksStand : Type 0
BootWalksStand = (P : Program) (s : State) → boot_state P ≡ Some s → Standing P s.mode s.frames boot_walks
