-- What a step does to the frames and to their walks (JVM Specification SE 8, 2.6 and 2.10).
use Rattle.std.specs.Prelude.{◌≡◌, ℕ, List, [], ◌∷◌, Some}
use Rattle.std.specs.declared.option.Option.{Option}
use Rattle.bytecode_model.specs.declared.Ending.{Ending}
use Rattle.bytecode_model.specs.State.{Frame, State}
use Rattle.bytecode_model.specs.Program.{Program, Limits}
use Rattle.bytecode_model.specs.Steps.{step}
use Rattle.bytecode_typing.specs.Fits.{IsGoing}
use Rattle.method_flow.specs.Nodes.{At, RaiseAt, number_of}
use Rattle.method_flow.specs.Shapes.{node_of, IsGoingOn, Moves, Enters, Returns, Drops}
use Rattle.method_runs.specs.Runs.{Walks, with_nodes}

-- The frame f, over these callers, was the top one, and t is the next state. The top frame moves on, a frame is made, the top frame is left, or the
-- program ends with the frame that it had.
pub data WalksStep (P : Program) (mode : Ending) (f : Frame) (callers : List Frame) (t : State) : Walks → Walks → Type 0 where
  moves : {w : Option (List ℕ)} {ws : Walks} (h : Moves P mode f callers t)
      → WalksStep P mode f callers t (w ∷ ws) (with_nodes (number_of (node_of t.mode h.top) ∷ []) w ∷ ws)
  enters : {ws : Walks} → Enters P mode f callers t → WalksStep P mode f callers t ws (Some (0 ∷ []) ∷ ws)
  returns : {v w : Option (List ℕ)} {ws : Walks} (h : Returns P mode f callers t)
      → WalksStep P mode f callers t (v ∷ w ∷ ws) (with_nodes (number_of (At h.top.pc) ∷ []) w ∷ ws)
  drops : {v w : Option (List ℕ)} {ws : Walks} (h : Drops P mode f callers t)
      → WalksStep P mode f callers t (v ∷ w ∷ ws) (with_nodes (number_of (RaiseAt h.top.pc) ∷ []) w ∷ ws)
  ends : {ws : Walks} → callers ≡ [] → t.frames ≡ f ∷ [] → ¬ IsGoingOn t.mode → WalksStep P mode f callers t ws ws

-- one more step of a run: of this top frame over these callers
pub record Stepped (P : Program) (limits : Limits) (s t : State) (ws vs : Walks) : Type 0 where
  pub frame : Frame
  pub callers : List Frame
  pub frames : s.frames ≡ frame ∷ callers
  pub answer : Option ℕ
  pub is_next : step P limits answer s ≡ Some t
  pub walks : WalksStep P s.mode frame callers t ws vs

-- or none, where the program had ended
pub record Stayed (s t : State) (ws vs : Walks) : Type 0 where
  pub ended : ¬ IsGoing s.mode
  pub same : t ≡ s
  pub same_walks : vs ≡ ws
