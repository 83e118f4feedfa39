-- What each plain opcode does from its entry on, as a run of the machine.
use Rattle.std.specs.Prelude.{ℕ, ◌≡◌, true, false}
use Rattle.micro_flow.specs.declared.CostParams.{CostParams}
use Rattle.jop_core.specs.State.{MachineState}
use Rattle.micro_sketch.specs.Sketch.{Sketch}
use Rattle.micro_sketch.specs.Stands.{Env}
use Rattle.micro_sketch.specs.Row.{StandsAt}
use Rattle.micro_sketch.specs.Rows.{RunsRow, RunsToRaise}
use Rattle.micro_sketch.specs.Opcodes.{PlainOp, code_of, effect, IsReady, raises, raised_by}

-- where it doesn't raise
abbrev pub PlainRowsRun : Type 0
PlainRowsRun = (n : ℕ) (p : CostParams) (op : PlainOp) (x : Sketch) (e : Env) (s : MachineState) → StandsAt n p (code_of op) x e s → IsReady op x
    → raises op x ≡ false
    → RunsRow n p (code_of op) (effect op x) x e

-- and where it does
abbrev pub PlainRowsRaise : Type 0
PlainRowsRaise = (n : ℕ) (p : CostParams) (op : PlainOp) (x : Sketch) (e : Env) (s : MachineState) → StandsAt n p (code_of op) x e s → IsReady op x
    → raises op x ≡ true
    → RunsToRaise n p (code_of op) (raised_by x) x e
