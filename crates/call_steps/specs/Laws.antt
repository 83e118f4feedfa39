-- The rows of calls and returns, for the crates above.
use Rattle.std.specs.Prelude.{ℕ, ◌≡◌, true, false}
use Rattle.micro_flow.specs.declared.CostParams.{CostParams}
use Rattle.jop_core.specs.State.{MachineState}
use Rattle.micro_sketch.specs.Sketch.{Sketch}
use Rattle.micro_sketch.specs.Stands.{Env}
use Rattle.micro_sketch.specs.Row.{StandsAt}
use Rattle.micro_sketch.specs.Rows.{RunsSwitch, RunsToRaise}
use Rattle.call_steps.specs.Calls.{CallOp, call_code, CanCall, fits, RunsCall, overflow}
use Rattle.call_steps.specs.Returns as returns
use Rattle.call_steps.specs.Returns.{ReturnOp, return_code, CanReturn, IsLast, RunsToEnd}

-- A call makes its frame where that fits with the others.
abbrev pub CallsRun : Type 0
CallsRun = (n : ℕ) (p : CostParams) (op : CallOp) (x : Sketch) (e : Env) (s : MachineState) → StandsAt n p (call_code op) x e s → (c : CanCall n op x)
    → fits op x ≡ true → RunsCall n p op x e c

-- Else it raises a StackOverflowError.
abbrev pub CallsRaise : Type 0
CallsRaise = (n : ℕ) (p : CostParams) (op : CallOp) (x : Sketch) (e : Env) (s : MachineState) → StandsAt n p (call_code op) x e s → CanCall n op x
    → fits op x ≡ false
    → RunsToRaise n p (call_code op) (overflow x) x e

-- A return goes back to the caller.
abbrev pub ReturnsRun : Type 0
ReturnsRun = (n : ℕ) (p : CostParams) (op : ReturnOp) (x : Sketch) (e : Env) (s : MachineState) → StandsAt n p (return_code op) x e s → (c : CanReturn op x)
    → RunsSwitch n p (return_code op) (returns.return op x c) x e

-- That of boot's frame ends the run.
abbrev pub ReturnsEnd : Type 0
ReturnsEnd = (n : ℕ) (p : CostParams) (x : Sketch) (e : Env) (s : MachineState) → StandsAt n p (return_code returns.Return) x e s → IsLast x → RunsToEnd n p x e
