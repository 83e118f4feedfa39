-- Laws of rows: from what some words make of an opcode's entry to what a step of the machine does.
use Rattle.std.specs.Prelude.{ℕ, ◌≡◌, ◌≢◌, ◌^◌, ◌<◌, true, List, [], ◌++◌, length, reverse}
use Rattle.std.specs.declared.option.Option.{Option}
use Rattle.microcode.specs.declared.TheConstants.{RAISE}
use Rattle.micro_flow.specs.declared.CostParams.{CostParams}
use Rattle.jop_core.specs.declared.halt.Halt.TheVariants.{Running}
use Rattle.jop_core.specs.State.{MachineState}
use Rattle.jop_core.specs.Cycle.{cycle_of, at_boundary}
use Rattle.jop_core.specs.Scene.{begun, output_during}
use Rattle.device_traits.specs.declared.fault.DeviceFault.{DeviceFault}
use Rattle.device_traits.specs.declared.fault.DeviceFault.TheVariants.{Input, Output}
use Rattle.device_traits.specs.Told.{Told}
use Rattle.micro_sketch.specs.Sketch.{Sketch}
use Rattle.micro_sketch.specs.Stands.{Env, Shaped, Reaches, conc, stack_of, stalls}
use Rattle.micro_sketch.specs.Ends.{EndsSoon}
use Rattle.micro_sketch.specs.Step.{Arrived, Broke}
use Rattle.micro_sketch.specs.Row.{AreInRange, StandsAt, Effect, DidRow, WasSilent, SeenAtOpcode, RowsLeadOn}
use Rattle.micro_sketch.specs.Rows.{Makes, Finishes, end_of, entered, expecting, Run, TakesNone, PutsNone, Silent, LandsAt}

-- At an opcode's entry.

-- a machine that is about to run an opcode stands as its sketch begins there
abbrev pub StandsEntered : Type 0
StandsEntered = (n : ℕ) (p : CostParams) (op : ℕ) (x : Sketch) (e : Env) (s : MachineState) → StandsAt n p op x e s → x ≡ entered op x

-- it stands so whatever the input is to answer
abbrev pub StandsExpecting : Type 0
StandsExpecting = (n : ℕ) (p : CostParams) (op : ℕ) (x : Sketch) (e : Env) (s : MachineState) (answers : List (Option ℕ)) → StandsAt n p op x e s
    → StandsAt n p op (expecting answers x) e s

-- where some words come to a boundary, the machine does
abbrev pub FinishRuns : Type 0
FinishRuns = (n : ℕ) (p : CostParams) (op : ℕ) (x : Sketch) (e : Env) (s : MachineState) → StandsAt n p op x e s → (g : Finishes x) → Reaches n x (end_of x g) e

-- A boundary comes soon.

abbrev pub FinishComesSoon : Type 0
FinishComesSoon = (n : ℕ) (p : CostParams) (op : ℕ) (x : Sketch) (e : Env) (s : MachineState) → AreInRange p → StandsAt n p op x e s
    → ((answers : List (Option ℕ)) → Finishes (expecting answers x)) → EndsSoon s

-- a run whose loads don't stall for too long
pub record ShortRun (n : ℕ) (p : CostParams) (x : Sketch) (e : Env) : Type 0 where
  pub run : Run n x e
  pub short : stalls run.after p.r < 2 ^ 61

abbrev pub RunComesSoon : Type 0
RunComesSoon = (n : ℕ) (p : CostParams) (op : ℕ) (x : Sketch) (e : Env) (s : MachineState) → AreInRange p → StandsAt n p op x e s
    → ((answers : List (Option ℕ)) → ShortRun n p (expecting answers x) e) → EndsSoon s

-- Where the machine then stands.

-- A machine that has come to its next boundary stands as a run says that expected the answers which the device gave.
abbrev pub RunLands : Type 0
RunLands = (n : ℕ) (p : CostParams) (op : ℕ) (x : Sketch) (e : Env) (old new : MachineState) (t0 t1 : Told) → StandsAt n p op x e old → (r : Run n x e)
    → (far : Arrived old new t0 t1) (more : List (Option ℕ)) → x.answers ≡ far.answers ++ more → LandsAt n p op r.after e far.cycles new

-- the answers that it leaves, and what it put out
pub record Gave (x y : Sketch) (old new : MachineState) (told told' : Told) (far : Arrived old new told told') (more : List (Option ℕ)) : Type 0 where
  pub left : y.answers ≡ more
  pub put : y.output ≡ reverse (output_during far.cycles (begun old far.answers)) ++ x.output

abbrev pub RunGives : Type 0
RunGives = (n : ℕ) (x : Sketch) (e : Env) (old new : MachineState) (t0 t1 : Told) → old ≡ conc n x e → (r : Run n x e)
    → (far : Arrived old new t0 t1) (more : List (Option ℕ)) → x.answers ≡ far.answers ++ more → Gave x r.after old new t0 t1 far more

-- x is silent whatever the input is to answer
abbrev pub AlwaysSilent : ℕ → Sketch → Env → Type 0
AlwaysSilent n x e = (answers : List (Option ℕ)) → Silent n (expecting answers x) e

-- So it stands whatever answers a run expected that is silent.
abbrev pub SilentRunLands : Type 0
SilentRunLands = (n : ℕ) (p : CostParams) (op : ℕ) (x : Sketch) (e : Env) (old new : MachineState) (t0 t1 : Told) → StandsAt n p op x e old → AlwaysSilent n x e
    → (r : Run n x e)
    → (far : Arrived old new t0 t1) → LandsAt n p op r.after e far.cycles new

abbrev pub SilentStep : Type 0
SilentStep = (n : ℕ) (p : CostParams) (op : ℕ) (x : Sketch) (e : Env) (old new : MachineState) (t0 t1 : Told) → StandsAt n p op x e old → AlwaysSilent n x e
    → (far : Arrived old new t0 t1) → WasSilent old new t0 t1 far

-- Rows with an effect, which lead to the next opcode.

abbrev pub RowIsSilent : Type 0
RowIsSilent = (n : ℕ) (p : CostParams) (op : ℕ) (f : Effect) (x : Sketch) (e : Env) (s : MachineState) → StandsAt n p op x e s → Makes f x
    → f.answers ≡ x.answers
    → f.output ≡ [] → Silent n x e

abbrev pub RowIsDone : Type 0
RowIsDone = (n : ℕ) (p : CostParams) (op : ℕ) (f : Effect) (x : Sketch) (e : Env) (old new : MachineState) (t0 t1 : Told) → StandsAt n p op x e old → Makes f x
    → (far : Arrived old new t0 t1) (more : List (Option ℕ)) → x.answers ≡ far.answers ++ more → DidRow n p op f x e far.cycles new

abbrev pub SilentRowIsDone : Type 0
SilentRowIsDone = (n : ℕ) (p : CostParams) (op : ℕ) (f : Effect) (x : Sketch) (e : Env) (old new : MachineState) (t0 t1 : Told) → StandsAt n p op x e old
    → Makes f x
    → AlwaysSilent n x e
    → (far : Arrived old new t0 t1) → DidRow n p op f x e far.cycles new

-- after a row the machine stands at an opcode's entry, which is never that of the raise routine
abbrev pub RowRunsOn : Type 0
RowRunsOn = (n : ℕ) (p : CostParams) (op cycles : ℕ) (f : Effect) (x : Sketch) (e : Env) (new : MachineState) → DidRow n p op f x e cycles new
    → (new.halt ≡ Running) × (new.mpc ≢ RAISE)

-- Calls on the device that fail.

abbrev pub ReadsNothing : Type 0
ReadsNothing = (n : ℕ) (x : Sketch) (e : Env) (old new : MachineState) (t0 t1 : Told) → old ≡ conc n x e → x.output ≡ []
    → ((answers : List (Option ℕ)) → TakesNone n (expecting answers x) e) → Broke old new t0 t1 Input → ⊥

abbrev pub WritesNothing : Type 0
WritesNothing = (n : ℕ) (x : Sketch) (e : Env) (old new : MachineState) (t0 t1 : Told) → old ≡ conc n x e → x.output ≡ []
    → ((answers : List (Option ℕ)) → PutsNone n (expecting answers x) e) → Broke old new t0 t1 Output → ⊥

-- no byte was taken in or put out before the call that failed
pub record BrokeSilently (old new : MachineState) (told told' : Told) (fault : DeviceFault) (b : Broke old new told told' fault) : Type 0 where
  pub taken : b.answers ≡ []
  pub put : output_during b.cycles (begun old b.answers) ≡ []

-- a call that fails does so before anything was taken in or put out
abbrev pub FailsSilently : MachineState → MachineState → Told → Told → DeviceFault → Type 0
FailsSilently old new told told' fault = (b : Broke old new told told' fault) → BrokeSilently old new told told' fault b

abbrev pub SilentBreak : Type 0
SilentBreak = (n : ℕ) (x : Sketch) (e : Env) (old new : MachineState) (t0 t1 : Told) (fault : DeviceFault) → old ≡ conc n x e → x.output ≡ []
    → AlwaysSilent n x e
    → FailsSilently old new t0 t1 fault

-- where the first cycle comes to a boundary, a call that fails leaves the machine as it was, and nothing was taken in or put out
abbrev pub BreaksAtOnce : Type 0
BreaksAtOnce = (old new : MachineState) (t0 t1 : Told) (fault : DeviceFault) → ((input : Option ℕ) → at_boundary (cycle_of input old) ≡ true)
    → (b : Broke old new t0 t1 fault) → (new ≡ old) × BrokeSilently old new t0 t1 fault b

-- the on-chip words are as many as the sketch says
abbrev pub StackHasWords : Type 0
StackHasWords = (n : ℕ) (x : Sketch) → Shaped n x → length (stack_of x) ≡ n

-- The laws of rows that hold of every opcode.
pub record AreRowLaws : Type 0 where
  pub stack_has_words : StackHasWords
  pub seen : SeenAtOpcode
  pub enters : StandsEntered
  pub expects : StandsExpecting
  pub finish_runs : FinishRuns
  pub finish_comes_soon : FinishComesSoon
  pub run_comes_soon : RunComesSoon
  pub run_lands : RunLands
  pub run_gives : RunGives
  pub silent_lands : SilentRunLands
  pub silent_step : SilentStep
  pub row_is_silent : RowIsSilent
  pub row_is_done : RowIsDone
  pub silent_row_is_done : SilentRowIsDone
  pub row_runs_on : RowRunsOn
  pub rows_lead_on : RowsLeadOn
  pub reads_nothing : ReadsNothing
  pub writes_nothing : WritesNothing
  pub breaks_silently : SilentBreak
  pub breaks_at_once : BreaksAtOnce
