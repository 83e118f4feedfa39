-- What is proved of the steps from a stage on.
use Rattle.std.specs.Prelude.{◌≡◌, ℕ, Some}
use Rattle.std.specs.declared.option.Option.{Option}
use Rattle.jop_core.specs.State as machine
use Rattle.micro_sketch.specs.Ends.{EndsSoon}
use Rattle.bytecode_model.specs.State.{State}
use Rattle.bytecode_model.specs.Steps.{step}
use Rattle.bytecode_model.specs.WellFormed.{IsInput}
use Rattle.bytecode_typing.specs.Fits.{Fits, IsGoing}
use Rattle.machine_stands.specs.Comes.{ComesTo}
use Rattle.boundary.specs.Answers.{answer_of}
use Rattle.boundary.specs.Setting.{Setting, limits, IsSetting, Stands}
use Rattle.boundary.specs.Session.{IsAtStep}

-- the next state for an answer of the input, and the run of the machine to where it stands for that
pub record NextStage (g : Setting) (m : machine.MachineState) (s : State) (answer : Option ℕ) : Type 0 where
  pub next : State
  pub is_next : step g.program (limits g) answer s ≡ Some next
  pub fits : Fits g.program g.types (limits g) next
  pub comes : ComesTo g.program g.places g.chip g.memory m s next

-- From an instruction, or from the raise routine, the machine comes to the next state, whatever the input answers.
abbrev pub StagesAdvance : Type 0
StagesAdvance = (g : Setting) (m : machine.MachineState) (s : State) → IsSetting g → Stands g m s → IsGoing s.mode
    → (answer : Option ℕ) → IsInput answer → NextStage g m s answer

-- States of programs for which a machine stands go on alike, where one of them does.
abbrev pub StagesAgree : Type 0
StagesAgree = (m : machine.MachineState) → (here : IsAtStep m) → (g : Setting) (s : State) → IsSetting g → Stands g m s
    → answer_of s.mode ≡ answer_of here.state.mode

-- The next boundary comes soon.
abbrev pub StagesEndSoon : Type 0
StagesEndSoon = (m : machine.MachineState) → IsAtStep m → EndsSoon m
