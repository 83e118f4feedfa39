-- The run of a program and of the machine together, from one boundary to a later one (JVM Specification SE 8, 2.10 and 2.11).
use Rattle.std.specs.Prelude.{◌≡◌, ℕ, zero, suc, ◌+◌, ◌<◌, ◌≤◌, List, ◌++◌, Some, None, Ok, Err, slice_get}
use Rattle.std.specs.declared.option.Option.{Option}
use Rattle.std.specs.declared.result.Result.{Result}
use Rattle.device_traits.specs.declared.fault.DeviceFault.{DeviceFault}
use Rattle.jop_core.specs.State as machine
use Rattle.jop_core.specs.Scene.{begun, output_during}
use Rattle.device_traits.specs.Told.{Told}
use Rattle.micro_sketch.specs.Step.{RanCycles}
use Rattle.bytecode_model.specs.declared.Ending.TheVariants as modes
use Rattle.bytecode_model.specs.State.{State}
use Rattle.bytecode_model.specs.Steps.{run_from}
use Rattle.bytecode_typing.specs.Fits.{IsGoing}
use Rattle.boundary.specs.declared.runs.RunEnd.{RunEnd}
use Rattle.boundary.specs.declared.runs.RunEnd.TheVariants as ends
use Rattle.boundary.specs.Setting.{Setting, limits, IsSetting, Stands}
use Rattle.boundary.specs.Activations.{Stage, Follows}
use Rattle.boundary.specs.Advances.{FailsOnDevice}

-- the input that gave these answers: question k got answer k
abbrev pub input_of : (answers : List (Option ℕ)) → ℕ → Option ℕ
input_of answers k = elim (slice_get answers k) [ None ↦ None | Some answer ↦ answer ]

-- So many steps lead from a to b, from boundary to boundary. Before each of them the program was going on, and the clock was below the limit.
abbrev pub Goes : Setting → (limit : ℕ) → (a : Stage) → (steps : ℕ) → (b : Stage) → Type 0
Goes g limit a zero b = b ≡ a
Goes g limit a (suc n) b = (mid : Stage) × Goes g limit a n mid × IsGoing mid.state.mode × (mid.machine.clock < limit) × Follows g mid b

-- The program's run came to the state of b in these steps, and the machine, which stands for it, in these cycles. The device gave just the answers of the
-- run's input, was given just the bytes of the run, and was handed each state of the machine from which a cycle was done.
pub record IsRun (g : Setting) (limit : ℕ) (a b : Stage) (told told' : Told) : Type 0 where
  pub steps : ℕ
  pub stages : Goes g limit a steps b
  pub reached : b.state ≡ run_from g.program (limits g) (input_of b.state.answers) a.state steps
  pub stands : Stands g b.machine b.state
  pub cycles : ℕ
  pub clock : b.machine.clock ≡ a.machine.clock + cycles
  pub answers : List (Option ℕ)
  pub ran : RanCycles cycles a.machine b.machine told told' answers
  pub took : b.state.answers ≡ a.state.answers ++ answers
  pub put : b.state.output ≡ a.state.output ++ output_during cycles (begun a.machine answers)

-- the run came to a machine that stands for a state of which this holds
pub record RunsOn (g : Setting) (limit : ℕ) (a : Stage) (now : machine.MachineState) (told told' : Told) (K : State → Type 0) : Type 0 where
  pub last : Stage
  pub now_is : last.machine ≡ now
  pub run : IsRun g limit a last told told'
  pub holds : K last.state

-- the run came to a boundary from which a step was begun, on which a call on the device failed
pub record Breaks (g : Setting) (limit : ℕ) (a : Stage) (now : machine.MachineState) (told told' : Told)
    (K : State → (old new : machine.MachineState) → (before after : Told) → Type 0) : Type 0 where
  pub last : Stage
  pub before : Told
  pub run : IsRun g limit a last told before
  pub going : IsGoing last.state.mode
  pub below : last.machine.clock < limit
  pub fails : K last.state last.machine now before told'

-- of the state and the machine to which a run has come that ends so
abbrev pub IsEnd : (limit : ℕ) → (now : machine.MachineState) → RunEnd → State → Type 0
IsEnd limit now ends.Ended s = s.mode ≡ modes.Ended
IsEnd limit now (ends.Uncaught c) s = s.mode ≡ modes.Uncaught c
IsEnd limit now ends.Spent s = IsGoing s.mode × (limit ≤ now.clock)

-- how the run ends, or which call on the device failed
abbrev pub RunsTo : (g : Setting) → (limit : ℕ) → (a : Stage) → (now : machine.MachineState) → (told told' : Told) → Result RunEnd DeviceFault → Type 0
RunsTo g limit a now told told' (Ok end) = RunsOn g limit a now told told' (IsEnd limit now end)
RunsTo g limit a now told told' (Err fault) = Breaks g limit a now told told' (FailsOnDevice g fault)

-- so it is from each state of a program for which the machine stood
unfoldable pub RunsAll : (limit : ℕ) → (old now : machine.MachineState) → (told told' : Told) → Result RunEnd DeviceFault → Type 0
RunsAll limit old now told told' end = (g : Setting) (s : State) → IsSetting g → Stands g old s
    → RunsTo g limit (record { machine = old; state = s }) now told told' end
