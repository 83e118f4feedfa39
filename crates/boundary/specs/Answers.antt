-- What is answered of the states of a program.
use Rattle.std.specs.Prelude.{◌≡◌, ◌⊎◌, ℕ, Bool, true, false, Some, None, Ok, Err}
use Rattle.std.specs.declared.option.Option.{Option}
use Rattle.std.specs.declared.result.Result.{Result}
use Rattle.device_traits.specs.declared.fault.DeviceFault.{DeviceFault}
use Rattle.bytecode_model.specs.declared.Ending.{Ending}
use Rattle.bytecode_model.specs.declared.Ending.TheVariants.{Running, Raising, Ended, Uncaught}
use Rattle.boundary.specs.declared.answer.Boundary.{Boundary}
use Rattle.boundary.specs.declared.answer.Boundary.TheVariants as answers

-- how a state goes on
abbrev pub answer_of : Ending → Boundary
answer_of Running = answers.Bytecode
answer_of (Raising p) = answers.Raise
answer_of Ended = answers.Halted
answer_of (Uncaught c) = answers.Uncaught c

-- whether the machine goes on from there
abbrev pub is_going : Boundary → Bool
is_going answers.Bytecode = true
is_going answers.Raise = true
is_going answer = false

-- so a run goes on, on which no call on the device has failed
abbrev pub goes_on : Result Boundary DeviceFault → Bool
goes_on (Ok answer) = is_going answer
goes_on (Err fault) = false

-- an object is raised
abbrev pub is_raise : Result Boundary DeviceFault → Bool
is_raise (Ok answers.Raise) = true
is_raise mode = false

-- a run whose frames can be asked for
abbrev pub HasFrames : Result Boundary DeviceFault → Type 0
HasFrames mode = (mode ≡ Ok answers.Bytecode) ⊎ (mode ≡ Ok answers.Raise)

-- of a machine that has halted: over an object of a class, or because the program returned
abbrev pub answer_at_end : (class : Option ℕ) → Boundary
answer_at_end None = answers.Halted
answer_at_end (Some c) = answers.Uncaught c
