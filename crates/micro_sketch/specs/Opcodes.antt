-- The plain opcodes that have a row, by families: what they make of the words of the stack, and what they need.
use Rattle.std.specs.Prelude.{ℕ, Bool, false, ◌==◌}
use Rattle.micro_sketch.specs.Sketch.{Sketch}
use Rattle.micro_sketch.specs.Row.{Effect}
use Rattle.micro_sketch.specs.Rows.{Raising}
use Rattle.micro_sketch.specs.NumberOps.{NumberOp, number_code, number_effect}
use Rattle.micro_sketch.specs.LocalOps.{LocalOp, local_code, local_effect, local_ready}
use Rattle.micro_sketch.specs.StackOps.{StackOp, stack_code, stack_effect, stack_ready}
use Rattle.micro_sketch.specs.LongOps.{LongOp, long_code, long_effect, long_ready}
use Rattle.micro_sketch.specs.DivisionOps.{DivisionOp, division_code, division_effect, division_raises, HasOperands}
use Rattle.micro_sketch.specs.WideOps.{WideOp, wide_effect, wide_ready}
use Rattle.micro_sketch.specs.SwitchOps.{SwitchOp, switch_code, switch_effect, switch_ready}
use Rattle.micro_sketch.specs.BranchOps.{BranchOp, branch_code, branch_effect}

pub data PlainOp : Type 0 where
  OfNumber : NumberOp → PlainOp
  OfLocal : LocalOp → PlainOp
  OfStack : StackOp → PlainOp
  OfLong : LongOp → PlainOp
  OfDivision : DivisionOp → PlainOp
  OfBranch : BranchOp → PlainOp
  OfSwitch : SwitchOp → PlainOp
  OfWide : WideOp → PlainOp

abbrev pub code_of : PlainOp → ℕ
code_of (OfNumber op) = number_code op
code_of (OfLocal op) = local_code op
code_of (OfStack op) = stack_code op
code_of (OfLong op) = long_code op
code_of (OfDivision op) = division_code op
code_of (OfBranch op) = branch_code op
code_of (OfSwitch op) = switch_code op
code_of (OfWide op) = 196

-- what each opcode does, where it doesn't raise
abbrev pub effect : PlainOp → Sketch → Effect
effect (OfNumber op) x = number_effect op x
effect (OfLocal op) x = local_effect op x
effect (OfStack op) x = stack_effect op x
effect (OfLong op) x = long_effect op x
effect (OfDivision op) x = division_effect op x
effect (OfBranch op) x = branch_effect op x
effect (OfSwitch op) x = switch_effect op x
effect (OfWide op) x = wide_effect op x

-- what an opcode needs beyond room on the stack
abbrev pub IsReady : PlainOp → Sketch → Type 0
IsReady (OfNumber op) x = Unit {0}
IsReady (OfLocal op) x = local_ready op x
IsReady (OfStack op) x = stack_ready op x
IsReady (OfLong op) x = long_ready op x
IsReady (OfDivision op) x = HasOperands x
IsReady (OfBranch op) x = Unit {0}
IsReady (OfSwitch op) x = switch_ready op x
IsReady (OfWide op) x = wide_ready op x

-- whether it raises: a division by zero does
abbrev pub raises : PlainOp → Sketch → Bool
raises (OfDivision op) x = x.top == 0
raises op x = false

-- and what it then leaves
abbrev pub raised_by : Sketch → Raising
raised_by x = division_raises x
