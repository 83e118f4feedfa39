-- What a run keeps from one boundary to the next.
use Rattle.std.proofs.Common.{◌≡◌, ℕ, zero, suc, true, false, [], ◌++◌, Ok, Err, refl, ◌∙◌, ap, subst, arith}
use Rattle.jop_core.specs.State as machine
use Rattle.jop_core.specs.Cycle.{asks_input}
use Rattle.jop_core.specs.Keeps.{CyclesKeep}
use Rattle.jop_core.specs.Scene.{Scene, next_scene, given, begun, run}
use Rattle.device_traits.specs.Told.{Told}
use Rattle.std.specs.declared.result.Result.{Result}
use Rattle.device_traits.specs.declared.fault.DeviceFault.{DeviceFault}
use Rattle.bytecode_model.specs.declared.Ending.{Ending}
use Rattle.bytecode_model.specs.declared.Ending.TheVariants.{Running, Raising, Ended, Uncaught}
use Rattle.bytecode_typing.specs.Fits.{IsGoing}
use Rattle.machine_stands.specs.StandsFor.{StandsFor}
use Rattle.boundary.specs.declared.answer.Boundary.{Boundary}
use Rattle.boundary.specs.Answers.{answer_of, is_going, goes_on}
use Rattle.boundary.specs.Setting.{Setting}
use Rattle.boundary.specs.Session.{Session, HasWaits, IsInStep, KeepsStep, IsAtStep}
use Rattle.boundary.specs.Advances.{ReachesBoundary, StepsTo}

run_waits : CyclesKeep → (k : ℕ) (c : Scene) → HasWaits c.state → HasWaits (run k c).state
run_waits keep zero c h = h
run_waits keep (suc k) c h =
    let kept = (keep (given (asks_input c.state) c.answers) c.state).sizes in
    run_waits keep k (next_scene c) (record { read = omega (arith, kept.read, h.read); write = omega (arith, kept.write, h.write) })

-- only a going state is answered by what goes on
pub going_mode : (mode : Ending) (answer : Boundary) → answer_of mode ≡ answer → is_going answer ≡ true → IsGoing mode
going_mode Running answer e h = tt
going_mode (Raising p) answer e h = tt
going_mode Ended answer e h = let clash : false ≡ true = ap is_going e ∙ h in absurd (cc)
going_mode (Uncaught c) answer e h = let clash : false ≡ true = ap is_going e ∙ h in absurd (cc)

-- nor is another one by a run that goes on
pub going_state : (state : Ending) (mode : Result Boundary DeviceFault) → Ok (answer_of state) ≡ mode → goes_on mode ≡ true → IsGoing state
going_state state mode e h = going_mode state (answer_of state) refl (ap goes_on e ∙ h)

-- a run that goes on is in step
pub going_step : (n : ℕ) (r : Session) (mode : Result Boundary DeviceFault) → goes_on mode ≡ true → KeepsStep n r mode → IsInStep n r
going_step n r (Ok answer) h kept = kept
going_step n r (Err fault) h kept = absurd (cc)

pub at_step : (n : ℕ) (r : Session) → goes_on r.mode ≡ true → IsInStep n r → IsAtStep r.machine
at_step n r e here = record {
  setting = here.setting;
  is_setting = here.is_setting;
  state = here.state;
  stands = here.stands;
  going = going_state here.state.mode r.mode here.mode e;
  waits = here.waits;
}

module _ (keep : CyclesKeep) (n : ℕ) (r : Session) (here : IsInStep n r) (new : machine.MachineState) (t0 t1 : Told) where
  abbrev g : Setting
  g = here.setting

  reached : (answer : Boundary) → ReachesBoundary g here.state r.machine new t0 t1 answer → IsInStep n (record { machine = new; methods = r.methods; mode = Ok answer })
  reached answer (a, mode) =
      let W : machine.MachineState → Type 0 = λ m. HasWaits m in
      let S : machine.MachineState → Type 0 = λ m. StandsFor g.program g.places g.chip g.memory m a.next in
      record {
        setting = here.setting;
        is_setting = here.is_setting;
        chip = here.chip;
        methods = here.methods;
        state = a.next;
        stands = record { stands = subst S a.new_is a.comes.stands; fits = a.fits };
        mode = ap (λ (b : Boundary). let ok : Result Boundary DeviceFault = Ok b in ok) mode;
        waits = subst W (a.ran.state []) (run_waits keep a.comes.cycles (begun r.machine (a.comes.answers ++ [])) here.waits);
      }

  -- after a fault nothing is kept
  pub keeps_on : (answer : Result Boundary DeviceFault) → StepsTo g here.state r.machine new t0 t1 answer → KeepsStep n (record { machine = new; methods = r.methods; mode = answer }) answer
  keeps_on (Ok answer) h = reached answer h
  keeps_on (Err fault) h = tt
