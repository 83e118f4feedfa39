-- What a frame does from the boundary at which it is the top one to the boundary at which it is left, as a tree: its own steps, and all that it calls.
use Rattle.std.specs.Prelude.{◌≡◌, ◌⊎◌, ℕ, List, [], ◌∷◌, ◌++◌}
use Rattle.bytecode_model.specs.State.{Frame}
use Rattle.method_flow.specs.Nodes.{number_of}
use Rattle.method_flow.specs.Shapes.{node_of, Moves, Enters, Returns, Drops}
use Rattle.activations.specs.Setting.{Setting}
use Rattle.activations.specs.Activations.{Stage, Follows}

-- a frame of this method, over these callers, is the top one, and stands at the node of this number
pub record IsTop (callers : List Frame) (m : ℕ) (a : Stage) (u : ℕ) : Type 0 where
  pub frame : Frame
  pub frames : a.state.frames ≡ frame ∷ callers
  pub method : frame.method ≡ m
  pub node : u ≡ number_of (node_of a.state.mode frame)

-- From boundary a, at which a frame of method m over these callers is the top one, to boundary b, at which it has been left; with the boundaries
-- between them, and the nodes at which the frame itself was the top one.
pub data Stay (g : Setting) : (callers : List Frame) → (m : ℕ) → (a b : Stage) → (between : List Stage) → (nodes : List ℕ) → Type 0 where
  -- it returns, or is dropped
  leaves : {callers : List Frame} {m : ℕ} {a b : Stage} {u : ℕ} (top : IsTop callers m a u) → Follows g a b
      → Returns g.program a.state.mode top.frame callers b.state ⊎ Drops g.program a.state.mode top.frame callers b.state → Stay g callers m a b [] (u ∷ [])
  -- a step within the method
  goes : {callers : List Frame} {m : ℕ} {a b c : Stage} {u : ℕ} {cs : List Stage} {us : List ℕ} (top : IsTop callers m a u) → Follows g a b
      → Moves g.program a.state.mode top.frame callers b.state → Stay g callers m b c cs us → Stay g callers m a c (b ∷ cs) (u ∷ us)
  -- a call, with the stay of the frame that it makes
  calls : {callers : List Frame} {m : ℕ} {a b c d : Stage} {u : ℕ} {bs cs : List Stage} {us vs : List ℕ} (top : IsTop callers m a u) → Follows g a b
      → (enters : Enters g.program a.state.mode top.frame callers b.state) → Stay g (enters.waiting ∷ callers) enters.top.method b c bs vs
      → Stay g callers m c d cs us
      → Stay g callers m a d (b ∷ (bs ++ c ∷ cs)) (u ∷ us)
