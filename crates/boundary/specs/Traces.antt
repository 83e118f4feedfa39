-- The run of the machine with its trace: at each boundary from which a step is begun a line, and then the lines of what the device notes in the step.
use Rattle.std.specs.Prelude.{◌≡◌, ℕ, zero, suc, ◌<◌, Bool, List, [], ◌++◌, length, map, sum_by, slice_get, Some, None, Ok, Err, Vec}
use Rattle.std.specs.List.{flat_map}
use Rattle.std.specs.declared.alloc.Global.{Global}
use Rattle.std.specs.declared.result.Result.{Result}
use Rattle.device_traits.specs.declared.fault.DeviceFault.{DeviceFault}
use Rattle.device_traits.specs.declared.fault.DeviceFault.TheVariants as faults
use Rattle.outside.specs.Outside.{Grew}
use Rattle.jop_core.specs.State as machine
use Rattle.jop_core.specs.Scene.{begun, notes_during}
use Rattle.device_traits.specs.Told.{Told, silent}
use Rattle.run_devices.specs.Lines.{step_line, step_name, note_line}
use Rattle.run_devices.specs.Traced.{LineIsPut, LineFails}
use Rattle.bytecode_model.specs.State.{State}
use Rattle.bytecode_model.specs.Sizes.{value_words}
use Rattle.bytecode_typing.specs.Fits.{IsGoing}
use Rattle.machine_stands.specs.ShownFrames.Shows.{top_frame}
use Rattle.boundary.specs.declared.answer.Boundary.{Boundary}
use Rattle.boundary.specs.declared.runs.RunEnd.{RunEnd}
use Rattle.boundary.specs.Opcodes.{next_opcode}
use Rattle.boundary.specs.Setting.{Setting}
use Rattle.boundary.specs.Session.{Session, IsStateOf}
use Rattle.boundary.specs.Activations.{Stage, Follows}
use Rattle.boundary.specs.Advances.{ReachesBoundary, FailsToRead, FailsToWrite, FailsToShow}
use Rattle.boundary.specs.Runs.{Goes, IsRun, IsEnd}

-- ---- the text

-- names as they are kept
abbrev pub texts : List (Vec ℕ Global) → List (List ℕ)
texts names = map (λ (name : Vec ℕ Global). name.items) names

-- the name of the method of this number; past the last one it is empty
abbrev pub name_of : (names : List (List ℕ)) → (method : ℕ) → List ℕ
name_of names method = elim (slice_get names method) [ None ↦ [] | Some name ↦ name ]

-- the line of a boundary: the cycles so far, and of the top frame the method's name, the place of the instruction, what is about to run, how many
-- frames there are and how many words its operands take
abbrev pub stage_line : (names : List (List ℕ)) → Setting → Stage → List ℕ
stage_line names g a =
    elim (top_frame a.state.frames) [
      | None ↦ []
      | Some f ↦ step_line a.machine.clock (name_of names f.method) f.pc (step_name (next_opcode g.program a.state)) (length a.state.frames)
          (sum_by value_words f.operands)
    ]

-- the lines of a step: that of its boundary, and then those of what the device notes in its cycles
abbrev pub step_text : (cycles : Bool) → (names : List (List ℕ)) → (g : Setting) → (a b : Stage) → Follows g a b → List ℕ
step_text cycles names g a b follows = stage_line names g a ++ flat_map (note_line cycles)
    (notes_during follows.comes.cycles (begun a.machine follows.comes.answers))

-- the lines of the steps from a to b, one after another
abbrev pub run_text : (cycles : Bool) → (names : List (List ℕ)) → (g : Setting) → (limit : ℕ) → (a : Stage) → (steps : ℕ) → (b : Stage) → Goes g limit a steps b
    → List ℕ
run_text cycles names g limit a zero b goes = []
run_text cycles names g limit a (suc n) b (mid, goes, going, below, follows) = run_text cycles names g limit a n mid goes
    ++ step_text cycles names g mid b follows

-- ---- the run

-- a device that tells the same, but that it writes nothing of what it notes
abbrev pub unnoted : Told → Told
unnoted told = record told { line = silent; noted = None }

-- The run came from a to b as on devices that write nothing of what they note, and the lines of its steps were written, and nothing else.
pub record IsTraced (cycles : Bool) (names : List (List ℕ)) (g : Setting) (limit : ℕ) (a b : Stage) (told told' : Told) : Type 0 where
  pub run : IsRun g limit a b (unnoted told) (unnoted told')
  pub line : told'.line ≡ told.line
  pub text : Grew told.noted told'.noted (run_text cycles names g limit a run.steps b run.stages)

-- the traced run came to a machine that stands for a state of which this holds
pub record TracesOn (cycles : Bool) (names : List (List ℕ)) (g : Setting) (limit : ℕ) (a : Stage) (now : machine.MachineState) (told told' : Told)
    (K : State → Type 0) : Type 0 where
  pub last : Stage
  pub now_is : last.machine ≡ now
  pub traced : IsTraced cycles names g limit a last told told'
  pub holds : K last.state

-- ---- one step more

-- the line of the boundary was put, and from there this holds of the state and the machine
pub record AfterLine (names : List (List ℕ)) (g : Setting) (a : Stage) (now : machine.MachineState) (told told' : Told)
    (K : State → (old new : machine.MachineState) → (before after : Told) → Type 0) : Type 0 where
  pub begun : Told
  pub line : LineIsPut told begun (stage_line names g a)
  pub holds : K a.state a.machine now begun told'

-- A line failed: that of the boundary, with the machine there, or behind it that of a byte.
pub data OutputFails (names : List (List ℕ)) (g : Setting) (a : Stage) (now : machine.MachineState) (told told' : Told) : Type 0 where
  AtBoundary : now ≡ a.machine → LineFails told told' (stage_line names g a) → OutputFails names g a now told told'
  AtWrite : AfterLine names g a now told told' (FailsToWrite g) → OutputFails names g a now told told'

-- where a step from a comes to, by the answer at the next boundary; a line of a cycle that fails is a state that could not be handed over
abbrev pub StepTraces : (names : List (List ℕ)) → (g : Setting) → (a : Stage) → (now : machine.MachineState) → (told told' : Told) → Result Boundary DeviceFault
    → Type 0
StepTraces names g a now told told' (Ok answer) = AfterLine names g a now told told' (λ s old new before after. ReachesBoundary g s old new before after answer)
StepTraces names g a now told told' (Err faults.Input) = AfterLine names g a now told told' (FailsToRead g)
StepTraces names g a now told told' (Err faults.Output) = OutputFails names g a now told told'
StepTraces names g a now told told' (Err faults.Seen) = AfterLine names g a now told told' (FailsToShow g)

-- so it is from each state for which the machine stood, of a program with these methods
unfoldable pub StepTracesAll : (names : List (List ℕ)) → (old : Session) → (now : machine.MachineState) → (told told' : Told) → Result Boundary DeviceFault
    → Type 0
StepTracesAll names old now told told' answer = (g : Setting) (s : State) → IsStateOf g old.methods old.machine s
    → StepTraces names g (record { machine = old.machine; state = s }) now told told' answer

-- the traced run came to a boundary from which a step was begun, where a call on the device failed
pub record TraceBreaks (cycles : Bool) (names : List (List ℕ)) (g : Setting) (limit : ℕ) (a : Stage) (now : machine.MachineState) (told told' : Told)
    (fault : DeviceFault) : Type 0 where
  pub last : Stage
  pub before : Told
  pub traced : IsTraced cycles names g limit a last told before
  pub going : IsGoing last.state.mode
  pub below : last.machine.clock < limit
  pub fails : StepTraces names g last now before told' (Err fault)

-- ---- how the traced run ends

abbrev pub TracesTo : (cycles : Bool) → (names : List (List ℕ)) → (g : Setting) → (limit : ℕ) → (a : Stage) → (now : machine.MachineState) → (told told' : Told)
    → Result RunEnd DeviceFault → Type 0
TracesTo cycles names g limit a now told told' (Ok end) = TracesOn cycles names g limit a now told told' (IsEnd limit now end)
TracesTo cycles names g limit a now told told' (Err fault) = TraceBreaks cycles names g limit a now told told' fault

-- so it is from each state for which the machine stood, of a program with these methods
unfoldable pub TracesAll : (cycles : Bool) → (names : List (List ℕ)) → (limit : ℕ) → (old : Session) → (now : machine.MachineState) → (told told' : Told)
    → Result RunEnd DeviceFault → Type 0
TracesAll cycles names limit old now told told' end = (g : Setting) (s : State) → IsStateOf g old.methods old.machine s
    → TracesTo cycles names g limit (record { machine = old.machine; state = s }) now told told' end
