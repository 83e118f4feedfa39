-- What a plain opcode's row is shown to be: a run of the machine.
use Rattle.std.proofs.Common.{ℕ}
use Rattle.micro_sketch.specs.Sketch.{Sketch}
use Rattle.micro_sketch.specs.Stands.{Env, Reaches, IsDone}
use Rattle.micro_sketch.specs.Row.{Effect, Follows}
use Rattle.micro_sketch.specs.Rows.{Raises}
use Rattle.micro_sketch.specs.Opcodes.{raised_by}

-- a run from x that has the effect, and one that raises
pub record RowRun (n : ℕ) (f : Effect) (x : Sketch) (e : Env) : Type 0 where
  pub after : Sketch
  pub reaches : Reaches n x after e
  pub done : IsDone after
  pub follows : Follows f x after

pub record RaiseRun (n : ℕ) (x : Sketch) (e : Env) : Type 0 where
  pub after : Sketch
  pub reaches : Reaches n x after e
  pub done : IsDone after
  pub raises : Raises (raised_by x) x after
