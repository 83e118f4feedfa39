-- What a run of the machine is seen as.
use Rattle.std.specs.Prelude.{◌≡◌, ◌≢◌, ℕ, ◌≤◌, Bool, List, Some, IsSomeAnd, Ok, Err}
use Rattle.std.specs.declared.option.Option.{Option}
use Rattle.std.specs.declared.result.Result.{Result}
use Rattle.device_traits.specs.declared.fault.DeviceFault.{DeviceFault}
use Rattle.machine_memory.specs.declared.timing.TheConstants.{MAX_WAIT}
use Rattle.jop_core.specs.declared.halt.Halt.TheVariants as halts
use Rattle.jop_core.specs.State as machine
use Rattle.bytecode_model.specs.State.{Frame, State}
use Rattle.bytecode_model.specs.Steps.{boot_state}
use Rattle.bytecode_typing.specs.Fits.{IsGoing}
use Rattle.boundary.specs.declared.answer.Boundary.{Boundary}
use Rattle.boundary.specs.Answers.{answer_of, answer_at_end, goes_on}
use Rattle.image_facts.specs.declared.method.CodedMethod.{CodedMethod}
use Rattle.image_facts.specs.Methods.{AreMethods}
use Rattle.machine_stands.specs.ShownFrames.Shows.{top_frame}
use Rattle.boundary.specs.Setting.{Setting, IsSetting, Stands}

-- The machine, the methods with code of the program that it runs, and how the state goes on for which it stands, or which call on the device failed.
pub record Session : Type 0 where
  pub machine : machine.MachineState
  pub methods : List CodedMethod
  pub mode : Result Boundary DeviceFault

-- the machine stands for the state of a program whose methods with code are these
pub record IsStateOf (g : Setting) (methods : List CodedMethod) (m : machine.MachineState) (s : State) : Type 0 where
  pub is_setting : IsSetting g
  pub methods_are : AreMethods g.program g.places methods
  pub stands : Stands g m s

-- the waits of the machine's memory are permitted ones
pub record HasWaits (m : machine.MachineState) : Type 0 where
  pub read : m.port.read ≤ MAX_WAIT
  pub write : m.port.write ≤ MAX_WAIT

-- the machine with n on-chip words stands for a state of the program that it runs, which goes on so
pub record IsInStep (n : ℕ) (r : Session) : Type 0 where
  pub setting : Setting
  pub is_setting : IsSetting setting
  pub chip : setting.chip ≡ n
  pub methods : AreMethods setting.program setting.places r.methods
  pub state : State
  pub stands : Stands setting r.machine state
  pub mode : Ok (answer_of state.mode) ≡ r.mode
  pub waits : HasWaits r.machine

-- unless a call on the device has failed
abbrev pub KeepsStep : (n : ℕ) → Session → (mode : Result Boundary DeviceFault) → Type 0
KeepsStep n r (Ok answer) = IsInStep n r
KeepsStep n r (Err fault) = Unit {0}

-- the machine goes on to the next boundary
abbrev pub goes : Session → Bool
goes r = goes_on r.mode

-- the machine is about to run an instruction of some program, or to look for a handler there
pub record IsAtStep (m : machine.MachineState) : Type 0 where
  pub setting : Setting
  pub is_setting : IsSetting setting
  pub state : State
  pub stands : Stands setting m state
  pub going : IsGoing state.mode
  pub waits : HasWaits m

-- the machine has halted over a state of some program
pub record HasEnded (m : machine.MachineState) : Type 0 where
  pub setting : Setting
  pub is_setting : IsSetting setting
  pub state : State
  pub stands : Stands setting m state
  pub halted : m.halt ≢ halts.Running

-- each state of a program for which the machine stands goes on so
abbrev pub AllGoOnSo : machine.MachineState → Boundary → Type 0
AllGoOnSo m answer = (g : Setting) (s : State) → IsSetting g → Stands g m s → answer_of s.mode ≡ answer

-- each state of a program for which the machine stands has ended so
abbrev pub EndsWith : machine.MachineState → (class : Option ℕ) → Type 0
EndsWith m class = (g : Setting) (s : State) → IsSetting g → Stands g m s → answer_of s.mode ≡ answer_at_end class

-- the machine stands for the first state of the program
pub record Begins (g : Setting) (m : machine.MachineState) : Type 0 where
  pub boot : State
  pub is_boot : boot_state g.program ≡ Some boot
  pub stands : Stands g m boot

-- so it is of each state for which it stands of a program with these methods
abbrev pub EachShownState : Session → (State → Type 0) → Type 0
EachShownState r K = (g : Setting) (s : State) → IsStateOf g r.methods r.machine s → K s

-- and of its top frame
abbrev pub EachShownTop : Session → (Frame → Type 0) → Type 0
EachShownTop r K = EachShownState r (λ s. IsSomeAnd (top_frame s.frames) K)
