-- One step of the machine and of the bytecode together.
use Rattle.std.specs.Prelude.{◌≡◌, ℕ, ◌<◌, List, [], ◌∷◌, ◌++◌, Some, IsSomeAnd, Ok, Err}
use Rattle.std.specs.declared.option.Option.{Option}
use Rattle.std.specs.declared.result.Result.{Result}
use Rattle.device_traits.specs.declared.fault.DeviceFault.{DeviceFault}
use Rattle.device_traits.specs.declared.fault.DeviceFault.TheVariants as faults
use Rattle.device_traits.specs.Told.{Told}
use Rattle.jop_core.specs.State as machine
use Rattle.jop_core.specs.Cycle.{output_of}
use Rattle.jop_core.specs.Scene.{begun, first_of, output_during}
use Rattle.micro_sketch.specs.Step.{RanCycles, Broke}
use Rattle.bytecode_model.specs.State.{State}
use Rattle.bytecode_model.specs.Steps.{step}
use Rattle.bytecode_model.specs.WellFormed.{IsInput}
use Rattle.bytecode_typing.specs.Fits.{Fits}
use Rattle.machine_stands.specs.Comes.{ComesTo}
use Rattle.boundary.specs.declared.answer.Boundary.{Boundary}
use Rattle.boundary.specs.declared.answer.Boundary.TheVariants as answers
use Rattle.boundary.specs.Answers.{answer_of}
use Rattle.boundary.specs.Setting.{Setting, limits, IsSetting, Stands}

-- From the state, for which the machine stood, both came to the next one. On the way the device gave just the answers that the step takes, was given just the
-- bytes that it puts out, and was handed each state of the machine from which a cycle was done.
pub record Advances (g : Setting) (s : State) (old new : machine.MachineState) (told told' : Told) : Type 0 where
  pub answer : Option ℕ
  pub byte : IsInput answer
  pub next : State
  pub is_next : step g.program (limits g) answer s ≡ Some next
  pub fits : Fits g.program g.types (limits g) next
  pub comes : ComesTo g.program g.places g.chip g.memory old s next
  pub answer_is : answer ≡ first_of comes.answers
  pub new_is : comes.new ≡ new
  pub ran : RanCycles comes.cycles old new told told' comes.answers

-- and how the next state goes on is the answer
abbrev pub ReachesBoundary : (g : Setting) → State → (old new : machine.MachineState) → (told told' : Told) → Boundary → Type 0
ReachesBoundary g s old new told told' answer = (a : Advances g s old new told told') × (answer_of a.next.mode ≡ answer)

-- ---- where a call on the device failed

-- whatever the input answers, the step holds this of the next state
abbrev pub AfterStep : Setting → State → (Option ℕ → State → Type 0) → Type 0
AfterStep g s K = (answer : Option ℕ) → IsInput answer → IsSomeAnd (step g.program (limits g) answer s) (K answer)

-- these answers were given, and these bytes put out, before the call that failed: they are the first of what the step takes and puts out
pub record IsPart (g : Setting) (s : State) (answers : List (Option ℕ)) (output : List ℕ) : Type 0 where
  pub answer : Option ℕ
  pub byte : IsInput answer
  pub next : State
  pub is_next : step g.program (limits g) answer s ≡ Some next
  pub other_answers : List (Option ℕ)
  pub took : next.answers ≡ s.answers ++ (answers ++ other_answers)
  pub other_output : List ℕ
  pub put : next.output ≡ s.output ++ (output ++ other_output)

-- The machine is where it was, about to ask for the answer that the step takes, and nothing was answered or put out before. It still stands for the state.
pub record FailsToRead (g : Setting) (s : State) (old new : machine.MachineState) (told told' : Told) : Type 0 where
  pub broke : Broke old new told told' faults.Input
  pub answers : broke.answers ≡ []
  pub output : output_during broke.cycles (begun old []) ≡ []
  pub takes : AfterStep g s (λ answer t. t.answers ≡ s.answers ++ answer ∷ [])
  pub same : new ≡ old
  pub stands : Stands g new s

-- The machine is where it was, about to put out the byte that the step puts out, and nothing was answered or put out before. It still stands for the state.
pub record FailsToWrite (g : Setting) (s : State) (old new : machine.MachineState) (told told' : Told) : Type 0 where
  pub broke : Broke old new told told' faults.Output
  pub answers : broke.answers ≡ []
  pub output : output_during broke.cycles (begun old []) ≡ []
  pub puts : AfterStep g s (λ answer t. t.output ≡ s.output ++ output_of new)
  pub same : new ≡ old
  pub stands : Stands g new s

-- The machine stands where its state was handed to the device.
pub record FailsToShow (g : Setting) (s : State) (old new : machine.MachineState) (told told' : Told) : Type 0 where
  pub broke : Broke old new told told' faults.Seen
  pub part : IsPart g s broke.answers (output_during broke.cycles (begun old broke.answers))

-- by the call
abbrev pub FailsOnDevice : Setting → DeviceFault → State → (old new : machine.MachineState) → (told told' : Told) → Type 0
FailsOnDevice g faults.Input s old new told told' = FailsToRead g s old new told told'
FailsOnDevice g faults.Output s old new told told' = FailsToWrite g s old new told told'
FailsOnDevice g faults.Seen s old new told told' = FailsToShow g s old new told told'

-- ---- by the answer

abbrev pub StepsTo : (g : Setting) → State → (old new : machine.MachineState) → (told told' : Told) → Result Boundary DeviceFault → Type 0
StepsTo g s old new told told' (Ok answer) = ReachesBoundary g s old new told told' answer
StepsTo g s old new told told' (Err fault) = FailsOnDevice g fault s old new told told'

-- A step that goes on takes some cycles.
abbrev pub PassesTime : (old new : machine.MachineState) → Result Boundary DeviceFault → Type 0
PassesTime old new (Ok answers.Bytecode) = old.clock < new.clock
PassesTime old new (Ok answers.Raise) = old.clock < new.clock
PassesTime old new answer = Unit {0}

-- so it is for each program and state for which the machine stood
abbrev pub StepsAll : (old new : machine.MachineState) → (told told' : Told) → Result Boundary DeviceFault → Type 0
StepsAll old new told told' answer = (g : Setting) (s : State) → IsSetting g → Stands g old s → StepsTo g s old new told told' answer
