-- Activations of methods: the definitions of `activations`, under this crate's name, and a law.
use Rattle.std.specs.Prelude.{ℕ, ◌<◌}
pub use Rattle.activations.specs.Activations.{Stage, Follows, depth, StaysAbove, IsActivation, cycles_of}
use Rattle.boundary.specs.Setting.{Setting}

-- an activation takes some cycles
abbrev pub ActivationsTakeCycles : Type 0
ActivationsTakeCycles = (g : Setting) (method : ℕ) (a b : Stage) → IsActivation g method a b → 0 < cycles_of a b
