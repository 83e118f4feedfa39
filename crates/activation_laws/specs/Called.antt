-- What the bound of a method says of the activations that a call begins.
use Rattle.std.specs.Prelude.{◌≡◌, ℕ, ◌≤◌, List, Some}
use Rattle.run_follower.specs.declared.here.Here.{Here}
use Rattle.run_follower.specs.declared.watch.activation.Activation.{Activation}
use Rattle.run_follower.specs.Watch.Watched.{cycles_of}
use Rattle.method_flow.specs.declared.timing.Timing.{Timing}
use Rattle.method_flow.specs.Calls.{IsTarget}
use Rattle.method_flow.specs.Keeping.{BoundOf}
use Rattle.activations.specs.Setting.{Setting, IsSetting}
use Rattle.activations.specs.Activations.{Stage}
use Rattle.activations.specs.Keeping.{Keeps}
use Rattle.activations.specs.Warrant.{BoundsActivations}
use Rattle.activation_laws.specs.Seen.{AreSeen, IsActivationIn}
use Rattle.activation_laws.specs.Profiled.{FirstHasTiming}

-- Where the instruction at which an activation in the run begins may run one method alone, a bound of this method is kept by it, if it keeps the bounds of
-- loops.
abbrev pub CalledKeepBounds : Type 0
CalledKeepBounds =
    (g : Setting) (stages : List Stage) (heres : List Here) (t : Timing) (bound_of : BoundOf) (m most : ℕ) (x : Activation)
    → IsSetting g → AreSeen g stages heres → FirstHasTiming t stages → BoundsActivations g.program t bound_of m (Some most)
    → ((k : ℕ) → IsTarget g.program x.begun.method x.begun.pc k → k ≡ m) → (is : IsActivationIn g stages x) → Keeps bound_of is.is → cycles_of x ≤ most
