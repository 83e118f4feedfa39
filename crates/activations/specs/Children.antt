-- When all activations that are made in a stay keep the bounds.
use Rattle.std.specs.Prelude.{ℕ, List}
use Rattle.bytecode_model.specs.State.{Frame}
use Rattle.method_flow.specs.Keeping.{BoundOf, WalkKeeps}
use Rattle.activations.specs.Setting.{Setting}
use Rattle.activations.specs.Activations.{Stage}
use Rattle.activations.specs.Stays.{Stay}
use Rattle.activations.specs.Stays.Stay.{leaves, goes, calls}

-- the walks of all frames that are made in a stay keep the bounds
abbrev pub ChildrenKeep : {g : Setting} (bound_of : BoundOf) {callers : List Frame} {m : ℕ} {a b : Stage} {between : List Stage} {nodes : List ℕ}
    → Stay g callers m a b between nodes → Type 0
ChildrenKeep bound_of (leaves top follows left) = Unit {0}
ChildrenKeep bound_of (goes top follows moves more) = ChildrenKeep bound_of more
ChildrenKeep {g} bound_of (calls {vs = vs} top follows enters child more) =
    WalkKeeps g.program bound_of enters.top.method vs × ChildrenKeep bound_of child × ChildrenKeep bound_of more
