-- Activations take cycles.
use Rattle.std.proofs.Common.{◌≡◌, ℕ, zero, suc, ◌+◌, ◌<◌, List, [], ◌∷◌, ◌++◌, Ok, Err, ap, arith}
use Rattle.jop_core.specs.State as machine
use Rattle.jop_core.specs.Cycle.{asks_input}
use Rattle.jop_core.specs.Keeps.{CyclesKeep}
use Rattle.jop_core.specs.Scene.{Scene, next_scene, given, begun, run}
use Rattle.device_traits.specs.Told.{Told}
use Rattle.std.specs.declared.result.Result.{Result}
use Rattle.device_traits.specs.declared.fault.DeviceFault.{DeviceFault}
use Rattle.bytecode_model.specs.State.{State}
use Rattle.boundary.specs.declared.answer.Boundary.{Boundary}
use Rattle.boundary.specs.declared.answer.Boundary.TheVariants as answers
use Rattle.boundary.specs.Advances.{Advances, PassesTime, StepsTo}
use Rattle.boundary.specs.Setting.{Setting}
use Rattle.boundary.specs.Activations.{Stage, Follows, StaysAbove, ActivationsTakeCycles}

module _ (keep : CyclesKeep) where
  pub clock_after : (n : ℕ) (c : Scene) → (run n c).state.clock ≡ c.state.clock + n
  clock_after zero c = omega arith
  clock_after (suc n) c = omega (arith, clock_after n (next_scene c), (keep (given (asks_input c.state) c.answers) c.state).clock)

  -- a step takes cycles
  pub clock_rises : (g : Setting) (s : State) (old new : machine.MachineState) (t0 t1 : Told) → Advances g s old new t0 t1 → old.clock < new.clock
  clock_rises g s old new t0 t1 a =
      let ends = ap (λ (m : machine.MachineState). m.clock) (a.ran.state []) in
      omega (arith, ends, clock_after a.comes.cycles (begun old (a.comes.answers ++ [])), a.comes.positive)

  pub passes_time : (g : Setting) (s : State) (old new : machine.MachineState) (t0 t1 : Told) (answer : Result Boundary DeviceFault) → StepsTo g s old new t0 t1 answer → PassesTime old new answer
  passes_time g s old new t0 t1 (Ok answers.Bytecode) h = clock_rises g s old new t0 t1 h.0
  passes_time g s old new t0 t1 (Ok answers.Raise) h = clock_rises g s old new t0 t1 h.0
  passes_time g s old new t0 t1 (Ok answers.Halted) h = tt
  passes_time g s old new t0 t1 (Ok (answers.Uncaught c)) h = tt
  passes_time g s old new t0 t1 (Err fault) h = tt

  step_takes : (g : Setting) (a b : Stage) → Follows g a b → a.machine.clock < b.machine.clock
  step_takes g a b f =
      let ends = ap (λ (m : machine.MachineState). m.clock) (f.comes.ran []) in
      let is = ap (λ (m : machine.MachineState). m.clock) f.new_is in
      omega (arith, ends, is, clock_after f.comes.cycles (begun a.machine (f.comes.answers ++ [])), f.comes.positive)

  stay_takes : (g : Setting) (frames : ℕ) (a : Stage) (cs : List Stage) (b : Stage) → StaysAbove g frames a cs b → a.machine.clock < b.machine.clock
  stay_takes g frames a [] b h = step_takes g a b h
  stay_takes g frames a (c ∷ cs) b h = omega (arith, step_takes g a c h.1, stay_takes g frames c cs b h.2)

  pub take_cycles : ActivationsTakeCycles
  take_cycles g method a b h = omega (arith, step_takes g a h.first h.begins, stay_takes g _ h.first h.between b h.stays)
