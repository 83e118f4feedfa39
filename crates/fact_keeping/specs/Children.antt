-- When all stays within an activation keep what is asked of the walks of methods.
use Rattle.std.specs.Prelude.{ℕ, List}
use Rattle.bytecode_model.specs.State.{Frame}
use Rattle.bytecode_model.specs.Program.{Program}
use Rattle.method_flow.specs.Keeping.{BoundOf, WalkKeeps}
use Rattle.activations.specs.Setting.{Setting}
use Rattle.activations.specs.Activations.{Stage, IsActivation}
use Rattle.activations.specs.Stays.{Stay}
use Rattle.activations.specs.Stays.Stay.{leaves, goes, calls}
use Rattle.flow_facts.specs.Facts.{Facts}
use Rattle.fact_rules.specs.Keeping.{WalkKeepsFacts}

-- it holds of the walks of all frames that are made in a stay, by their methods
abbrev pub ChildrenKeepBy : (Keep : ℕ → List ℕ → Type 0) {g : Setting} {callers : List Frame} {m : ℕ} {a b : Stage} {between : List Stage}
    {nodes : List ℕ} → Stay g callers m a b between nodes → Type 0
ChildrenKeepBy Keep (leaves top follows left) = Unit {0}
ChildrenKeepBy Keep (goes top follows moves more) = ChildrenKeepBy Keep more
ChildrenKeepBy Keep (calls {vs = vs} top follows enters child more) =
    Keep enters.top.method vs × ChildrenKeepBy Keep child × ChildrenKeepBy Keep more

-- it holds of the walk of each stay of the activation's own frame, and of those of all stays within it
abbrev pub KeepsBy : (Keep : ℕ → List ℕ → Type 0) {g : Setting} {m : ℕ} {a b : Stage} → IsActivation g m a b → Type 0
KeepsBy Keep {g} {m} {a} {b} h =
    (callers : List Frame) (nodes : List ℕ) (stay : Stay g callers m h.first b h.between nodes) → Keep m nodes × ChildrenKeepBy Keep stay

-- the walk keeps the bounds of loops and the facts
abbrev pub WalkKeepsBoth : Program → BoundOf → Facts → (method : ℕ) → List ℕ → Type 0
WalkKeepsBoth P bound_of facts m ns = WalkKeeps P bound_of m ns × WalkKeepsFacts P facts m ns
