-- When an activation keeps the bounds that are given for loops: its own walk does, and those of all activations within it.
use Rattle.std.specs.Prelude.{◌≡◌, ℕ, suc, ◌==◌, if◌then◌else◌, List, [], ◌∷◌, ◌++◌}
use Rattle.std.specs.List.{flat_map}
use Rattle.bytecode_model.specs.declared.Ending.{Ending}
use Rattle.bytecode_model.specs.State.{Frame}
use Rattle.method_flow.specs.Nodes.{number_of}
use Rattle.method_flow.specs.Shapes.{node_of}
use Rattle.method_flow.specs.Keeping.{BoundOf, WalkKeeps}
use Rattle.activations.specs.Setting.{Setting}
use Rattle.activations.specs.Activations.{Stage, depth, IsActivation}

-- the node at which the top frame stands
abbrev pub node_of_top : Ending → List Frame → List ℕ
node_of_top mode [] = []
node_of_top mode (f ∷ fs) = number_of (node_of mode f) ∷ []

-- the same, at a boundary with so many frames
abbrev pub node_at : (frames : ℕ) → Stage → List ℕ
node_at n a = if depth a == n then node_of_top a.state.mode a.state.frames else []

-- the boundaries of an activation but its first and its last
abbrev pub stages_of : {g : Setting} {m : ℕ} {a b : Stage} → IsActivation g m a b → List Stage
stages_of h = h.first ∷ h.between

-- its walk: the nodes at which its own frame is the top one
abbrev pub walk_of : {g : Setting} {m : ℕ} {a b : Stage} → IsActivation g m a b → List ℕ
walk_of {g} {m} {a} {b} h = flat_map (node_at (suc (depth a))) (stages_of h)

-- an activation lies among these boundaries
pub record LiesAmong {g : Setting} {m : ℕ} {a b : Stage} (inner : IsActivation g m a b) (stages : List Stage) : Type 0 where
  pub before : List Stage
  pub after : List Stage
  pub split : stages ≡ before ++ a ∷ (stages_of inner ++ b ∷ after)

-- the activation keeps the bounds
pub record Keeps {g : Setting} {m : ℕ} {a b : Stage} (bound_of : BoundOf) (h : IsActivation g m a b) : Type 0 where
  pub own : WalkKeeps g.program bound_of m (walk_of h)
  pub inner : (m' : ℕ) (a' b' : Stage) (h' : IsActivation g m' a' b') → LiesAmong h' (stages_of h) → WalkKeeps g.program bound_of m' (walk_of h')
