-- The states of programs for which a machine stands.
use Rattle.std.specs.Prelude.{◌≡◌, ℕ, List, [], ◌∷◌, IsSomeAnd, Some, None}
use Rattle.std.specs.declared.option.Option.{Option}
use Rattle.image_facts.specs.declared.method.CodedMethod.{CodedMethod}
use Rattle.image_facts.specs.Methods.{AreMethods}
use Rattle.jop_core.specs.State as machine
use Rattle.bytecode_model.specs.declared.Ending.TheVariants.{Running, Raising}
use Rattle.bytecode_model.specs.State.{Frame, State}
use Rattle.bytecode_model.specs.Program.{Program}
use Rattle.bytecode_model.specs.WellFormed.{IsWellFormed}
use Rattle.image_facts.specs.Places.{Places}
use Rattle.image_facts.specs.Says.{Says}
use Rattle.machine_stands.specs.StandsFor.{StandsFor, limits_of}

-- The machine, with n on-chip words and so many words of memory, stands for the state of the program, whose methods with code are these.
pub record ShowsState (methods : List CodedMethod) (m : machine.MachineState) (P : Program) (pl : Places) (n size : ℕ) (s : State) : Type 0 where
  pub says : Says P pl
  pub methods_are : AreMethods P pl methods
  pub stands : StandsFor P pl n size m s
  pub formed : IsWellFormed P (limits_of P pl n size) s

-- it stands for some state
pub record IsShown (n : ℕ) (methods : List CodedMethod) (m : machine.MachineState) : Type 0 where
  pub program : Program
  pub places : Places
  pub memory : ℕ
  pub state : State
  pub shows : ShowsState methods m program places n memory state

-- so it is of each state for which it stands
abbrev pub EachState : List CodedMethod → machine.MachineState → (State → Type 0) → Type 0
EachState methods m K = (P : Program) (pl : Places) (n size : ℕ) (s : State) → ShowsState methods m P pl n size s → K s

abbrev pub top_frame : List Frame → Option Frame
top_frame [] = None
top_frame (f ∷ fs) = Some f

-- and of its top frame
abbrev pub EachTop : List CodedMethod → machine.MachineState → (Frame → Type 0) → Type 0
EachTop methods m K = EachState methods m (λ s. IsSomeAnd (top_frame s.frames) K)

-- it stands for a state that runs
abbrev pub IsRunning : (n : ℕ) → List CodedMethod → machine.MachineState → Type 0
IsRunning n methods m = (h : IsShown n methods m) × (h.state.mode ≡ Running)

-- so it is of the top frame of each state that runs
abbrev pub EachRunning : List CodedMethod → machine.MachineState → (Frame → Type 0) → Type 0
EachRunning methods m K = EachState methods m (λ s. s.mode ≡ Running → IsSomeAnd (top_frame s.frames) K)

-- it stands for a state in which an object is raised
abbrev pub IsRaising : (n : ℕ) → List CodedMethod → machine.MachineState → Type 0
IsRaising n methods m = (h : IsShown n methods m) × (p : ℕ) × (h.state.mode ≡ Raising p)

-- so it is of the top frame of each state in which one is
abbrev pub EachRaising : List CodedMethod → machine.MachineState → (Frame → Type 0) → Type 0
EachRaising methods m K = EachState methods m (λ s. (p : ℕ) → s.mode ≡ Raising p → IsSomeAnd (top_frame s.frames) K)
