-- The run of a program on the clocked machine, from reset.
use Rattle.std.specs.Prelude.{◌≡◌, ℕ, ◌≤◌, Bool, List, Some, Ok, Err}
use Rattle.std.specs.declared.result.Result.{Result}
use Rattle.device_traits.specs.declared.fault.DeviceFault.{DeviceFault}
use Rattle.device_traits.specs.declared.fault.DeviceFault.TheVariants as faults
use Rattle.jop_core.specs.State as machine
use Rattle.outside.specs.Outside.{Rose}
use Rattle.device_traits.specs.Told.{Told}
use Rattle.run_devices.specs.Traced.{traced}
use Rattle.bytecode_model.specs.State.{State}
use Rattle.bytecode_model.specs.Steps.{boot_state}
use Rattle.image_facts.specs.Methods.{AreMethods}
use Rattle.boundary.specs.declared.answer.Boundary.TheVariants.{Bytecode}
use Rattle.boundary.specs.declared.runs.RunEnd.{RunEnd}
use Rattle.boundary.specs.Setting.{Setting, IsSetting}
use Rattle.boundary.specs.Session.{Session, IsStateOf, Begins}
use Rattle.boundary.specs.Activations.{Stage}
use Rattle.boundary.specs.Runs as whole
use Rattle.boundary.specs.Traces.{TracesTo}
use Rattle.answer_lines.specs.declared.line.Counts.{Counts}
use Rattle.run_devices.specs.Lent.{Lent, wired}
use Rattle.endings.specs.Show.{Shown, Output, Trace}
use Rattle.run_commands.specs.declared.program_end.ProgramEnd.{ProgramEnd}
use Rattle.endings.specs.declared.outcome.Ending.{Ending}
use Rattle.endings.specs.DeviceFaults.{fault_ending}

-- ---- where it begins

-- a run that begins at this state of the machine
pub record Started (g : Setting) (reset : machine.MachineState) (r : Session) : Type 0 where
  pub is_setting : IsSetting g
  pub methods : AreMethods g.program g.places r.methods
  pub machine_is : r.machine ≡ reset
  pub mode : r.mode ≡ Ok Bytecode
  pub begins : Begins g reset

-- a run that begins where the machine is, over some program
abbrev pub HasStarted : Session → Type 0
HasStarted r = (g : Setting) × Started g r.machine r

-- ---- what it shows

-- The traced run. Its devices are the input, and the output, which is given the lines and has failed at least as often as they; the watch is as it was.
pub record Traced (cycles : Bool) (names : List (List ℕ)) (g : Setting) (limit : ℕ) (a : Stage) (now : machine.MachineState) (old new : Lent)
    (end : Result RunEnd DeviceFault) : Type 0 where
  pub after : Told
  pub traces : TracesTo cycles names g limit a now (traced cycles old.left old.read_faults old.held old.write_faults old.write_faults) after end
  pub left : after.left ≡ new.left
  pub reads : after.read_faults ≡ new.read_faults
  pub noted : after.noted ≡ new.held
  pub writes : after.write_faults ≤ new.write_faults
  pub sees : after.seen_faults ≤ new.write_faults
  pub watch : new.handed ≡ old.handed

-- from a, the machine and the program ran to this end
abbrev pub RunsAs : Shown → (g : Setting) → (limit : ℕ) → (a : Stage) → (now : machine.MachineState) → (old new : Lent) → Result RunEnd DeviceFault → Type 0
RunsAs Output g limit a now old new end = whole.RunsTo g limit a now (wired old) (wired new) end
RunsAs (Trace cycles names) g limit a now old new end = Traced cycles names g limit a now old new end

-- so it is from each state for which the machine stood, of a program with these methods
abbrev pub RunsAsAll : Shown → (limit : ℕ) → (r : Session) → (now : machine.MachineState) → (old new : Lent) → Result RunEnd DeviceFault → Type 0
RunsAsAll shown limit r now old new end = (g : Setting) (s : State) → IsStateOf g r.methods r.machine s
    → RunsAs shown g limit (record { machine = r.machine; state = s }) now old new end

-- ---- how it ends

-- the counts of a state
pub record AreCounts (counts : Counts) (s : machine.MachineState) : Type 0 where
  pub clock : counts.clock ≡ s.clock
  pub hits : counts.hits ≡ s.hits
  pub misses : counts.misses ≡ s.misses

-- a program that ended so
abbrev pub ended : RunEnd → Counts → ProgramEnd
ended end counts = record { end = Ok end; counts = counts }

-- one on whose run this call on a device failed
abbrev pub failed : DeviceFault → Counts → ProgramEnd
failed fault counts = record { end = Err fault; counts = counts }

-- the count of the call that failed has risen; a state that a trace doesn't show is counted with the output
abbrev pub HasRisen : Result RunEnd DeviceFault → (old new : Lent) → Type 0
HasRisen (Ok end) old new = Unit {0}
HasRisen (Err faults.Input) old new = Rose old.read_faults new.read_faults
HasRisen (Err faults.Output) old new = Rose old.write_faults new.write_faults
HasRisen (Err faults.Seen) old new = Rose old.write_faults new.write_faults

-- From reset, and from the boot state, the machine and the program ran to this end, and the machine is at `now`.
pub record RunsFromReset (shown : Shown) (g : Setting) (reset : machine.MachineState) (limit : ℕ) (end : Result RunEnd DeviceFault)
    (old new : Lent) : Type 0 where
  pub is_setting : IsSetting g
  pub boot : State
  pub is_boot : boot_state g.program ≡ Some boot
  pub now : machine.MachineState
  pub runs : RunsAs shown g limit (record { machine = reset; state = boot }) now old new end

-- and these are its counts there
pub record Ran (shown : Shown) (g : Setting) (reset : machine.MachineState) (limit : ℕ) (old new : Lent) (p : ProgramEnd) : Type 0 where
  pub run : RunsFromReset shown g reset limit p.end old new
  pub counts : AreCounts p.counts run.now
  pub rose : HasRisen p.end old new

-- ---- where a call on a device failed

-- a call failed on the run, and it ends so
pub record RanToFault (shown : Shown) (g : Setting) (reset : machine.MachineState) (limit : ℕ) (old new : Lent) (ending : Ending) : Type 0 where
  pub fault : DeviceFault
  pub says : ending ≡ fault_ending fault
  pub counts : Counts
  pub ran : Ran shown g reset limit old new (failed fault counts)
