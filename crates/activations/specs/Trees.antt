-- An activation is a tree of stays, each of which walks its method's graph.
use Rattle.std.specs.Prelude.{◌≡◌, ℕ, List, ◌∷◌}
use Rattle.bytecode_model.specs.State.{Frame}
use Rattle.method_flow.specs.Nodes.{At}
use Rattle.method_flow.specs.Live.{CanEnd, LiveWalk}
use Rattle.method_flow.specs.Shapes.{node_of, Enters}
use Rattle.method_flow.specs.Keeping.{BoundOf, WalkKeeps}
use Rattle.activations.specs.Setting.{Setting, IsSetting}
use Rattle.activations.specs.Activations.{Stage, IsActivation}
use Rattle.activations.specs.Stays.{Stay}
use Rattle.activations.specs.Keeping.{walk_of, Keeps}
use Rattle.activations.specs.Children.{ChildrenKeep}

-- the invoke with which the activation begins, and the stay of the frame that it makes
pub record Tree (g : Setting) (m : ℕ) (a b : Stage) (h : IsActivation g m a b) : Type 0 where
  pub frame : Frame
  pub callers : List Frame
  pub frames : a.state.frames ≡ frame ∷ callers
  pub enters : Enters g.program a.state.mode frame callers h.first.state
  pub method : enters.top.method ≡ m
  pub stay : Stay g (enters.waiting ∷ callers) m h.first b h.between (walk_of h)

-- an activation, which ends at the first later boundary at which the caller is on top again, is such a tree
abbrev pub ActivationsAreTrees : Type 0
ActivationsAreTrees = (g : Setting) (m : ℕ) (a b : Stage) (h : IsActivation g m a b) → IsSetting g → Tree g m a b h

-- the nodes of a stay are a walk that a run can take, from the node at which it begins to an exit
abbrev pub StaysAreWalks : Type 0
StaysAreWalks = (g : Setting) (callers : List Frame) (m : ℕ) (a b : Stage) (between : List Stage) (nodes : List ℕ) → Stay g callers m a b between nodes
    → (f : Frame) → a.state.frames ≡ f ∷ callers
    → LiveWalk g.program m (node_of a.state.mode f) nodes

-- the walk of an activation leads from its method's first instruction to an exit, so the method can end
abbrev pub ActivationsAreWalks : Type 0
ActivationsAreWalks = (g : Setting) (m : ℕ) (a b : Stage) (h : IsActivation g m a b) → IsSetting g
    → LiveWalk g.program m (At 0) (walk_of h) × CanEnd g.program m

-- where an activation keeps the bounds, its stay does, and so do all stays within it
abbrev pub StaysKeep : Type 0
StaysKeep = (g : Setting) (m : ℕ) (a b : Stage) (h : IsActivation g m a b) (bound_of : BoundOf) → Keeps bound_of h
    → (callers : List Frame) (nodes : List ℕ) (stay : Stay g callers m h.first b h.between nodes)
    → WalkKeeps g.program bound_of m nodes × ChildrenKeep bound_of stay
