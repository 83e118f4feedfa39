-- How the machine goes on from one boundary to the next.
use Rattle.std.specs.Prelude.{◌≡◌, ◌≢◌, ℕ, suc, ◌<◌, true, false, List, ◌++◌, Ok, Err}
use Rattle.std.specs.declared.option.Option.{Option}
use Rattle.std.specs.declared.result.Result.{Result}
use Rattle.microcode.specs.declared.TheConstants.{RAISE}
use Rattle.jop_core.specs.declared.halt.Halt.TheVariants.{Running}
use Rattle.jop_core.specs.State.{MachineState}
use Rattle.jop_core.specs.Cycle.{at_boundary, entry_of}
use Rattle.jop_core.specs.Scene.{begun, run, output_during, seen_during, notes_during}
use Rattle.device_traits.specs.declared.fault.DeviceFault.{DeviceFault}
use Rattle.device_traits.specs.Told.{Told, Attended}
use Rattle.jop_core.specs.Ticked.{Ticked}
use Rattle.micro_sketch.specs.declared.step.Stepped.{Stepped}
use Rattle.micro_sketch.specs.declared.step.Stepped.TheVariants.{Next, Raise, Halted}

-- So many cycles lead from old to new, where the device gave just these answers: it was handed each state from which a cycle was done, in
-- order, and given each byte after its state.
pub record RanCycles (cycles : ℕ) (old new : MachineState) (told told' : Told) (answers : List (Option ℕ)) : Type 0 where
  pub state : (more : List (Option ℕ)) → (run cycles (begun old (answers ++ more))).state ≡ new
  pub left : (more : List (Option ℕ)) → (run cycles (begun old (answers ++ more))).answers ≡ more
  pub device : Attended told told' answers (output_during cycles (begun old answers)) (seen_during cycles (begun old answers))
      (notes_during cycles (begun old answers))

-- no boundary lies on the way
abbrev pub HasNoBoundary : ℕ → MachineState → List (Option ℕ) → Type 0
HasNoBoundary cycles old answers = (i : ℕ) → suc i < cycles → at_boundary (run (suc i) (begun old answers)).state ≡ false

-- new is the first boundary after old
pub record Arrived (old new : MachineState) (told told' : Told) : Type 0 where
  pub cycles : ℕ
  pub positive : 0 < cycles
  pub answers : List (Option ℕ)
  pub ran : RanCycles cycles old new told told' answers
  pub boundary : at_boundary new ≡ true
  pub quiet : HasNoBoundary cycles old answers

-- a call on the device failed, with no boundary before it, and the machine stands where that cycle was tried
pub record Broke (old new : MachineState) (told told' : Told) (fault : DeviceFault) : Type 0 where
  pub cycles : ℕ
  pub answers : List (Option ℕ)
  pub before : Told
  pub ran : RanCycles cycles old new told before answers
  pub quiet : HasNoBoundary (suc cycles) old answers
  pub tried : Ticked new new before told' (Err fault)

-- what each answer at a boundary says of the state
abbrev pub StandsAs : MachineState → Stepped → Type 0
StandsAs s Next = (s.halt ≡ Running) × (s.mpc ≡ entry_of s.opcode) × (s.mpc ≢ RAISE)
StandsAs s Raise = (s.halt ≡ Running) × (s.mpc ≡ RAISE)
StandsAs s Halted = s.halt ≢ Running

-- the next boundary was come to, where the machine stands as is answered, or a call on the device failed
abbrev pub Went : MachineState → MachineState → Told → Told → Result Stepped DeviceFault → Type 0
Went old new told told' (Ok stepped) = Arrived old new told told' × StandsAs new stepped
Went old new told told' (Err fault) = Broke old new told told' fault
