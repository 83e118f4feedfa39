-- A bound of a method holds of the run of what was linked.
use Rattle.std.proofs.Common.{ℕ, zero, suc, List, refl, sym, subst}
use Rattle.class_pool.specs.declared.class.ClassFile.{ClassFile}
use Rattle.machine_memory.specs.declared.timing.Config.{Config}
use Rattle.jop_core.specs.State as machine
use Rattle.jop_core.specs.Reset.{linked_reset}
use Rattle.method_flow.specs.declared.timing.Timing.{Timing}
use Rattle.activations.specs.Setting.{Setting, IsSetting}
use Rattle.activations.specs.Activations.{Stage}
use Rattle.activations.specs.Steps.{PlacesTellWords, StepsAreTold}
use Rattle.activations.specs.Timing.{HasTiming}
use Rattle.boundary.specs.Runs.{Goes}
use Rattle.run_devices.specs.Lent.{Lent}
use Rattle.command_line.specs.declared.command.Settings.{Settings}
use Rattle.analysis_commands.specs.Analysis.{timing_of}
use Rattle.endings.specs.Phase.{HasSettings}
use Rattle.endings.specs.Show.{Shown, Output, Trace, linked_shown}
use Rattle.endings.specs.Settings.{linked_setting}
use Rattle.jop_cli.specs.Calls.{Call}
use Rattle.jop_cli.specs.Courses.{RanShown}
use Rattle.jop_cli.specs.Answer.{lent_of}
use Rattle.jop_cli.specs.promises.Activations.{BoundsHoldInRuns}

pub setting_of : (shown : Shown) (c : Call) (cs : List ClassFile) (g : Setting) (reset : machine.MachineState) (limit : ℕ) (old new : Lent) → RanShown shown c cs g reset limit old new → IsSetting g
setting_of Output c cs g reset limit old new r = r.is_setting
setting_of (Trace cycles names) c cs g reset limit old new r = r.is_setting

-- the waits and the sizes of the cache stay along a run
module _ (places : PlacesTellWords) (steps : StepsAreTold) (g : Setting) (is : IsSetting g) (t : Timing) (limit : ℕ) (first : Stage) (begins : HasTiming t first.machine) where
  pub timing_along : (n : ℕ) (a : Stage) → Goes g limit first n a → HasTiming t a.machine
  timing_along zero a goes = subst (λ (x : Stage). HasTiming t x.machine) (sym goes) begins
  timing_along (suc n) a (mid, goes, going, below, follows) =
      let words = places g is in
      (steps g t words.0 mid a is words.1 (timing_along n mid goes) follows).timing

pub reset_timing : (settings : Settings) (config : Config) (n : ℕ) (words : List ℕ) → HasSettings settings config → HasTiming (timing_of settings) (linked_reset n words config)
reset_timing settings config n words has = record { read = has.read; write = has.write; blocks = has.blocks; block_words = has.block_words }

pub bounds_hold_in_runs : PlacesTellWords → StepsAreTold → BoundsHoldInRuns
bounds_hold_in_runs places steps x keeps =
    let c = x.call in
    let settings = x.settings in
    let l = x.linked in
    let r = x.ran in
    let at = x.begins in
    let g = linked_setting l.classes settings.stack r.config.memory in
    let reset = linked_reset settings.stack l.laid.words r.config in
    let is = setting_of (linked_shown l.classes x.show) c l.classes g reset settings.cycles (lent_of c.old) (lent_of c.new) r.ran in
    let first : Stage = record { machine = reset; state = at.boot } in
    let timing = timing_along places steps g is (timing_of settings) settings.cycles first (reset_timing settings r.config settings.stack l.laid.words r.has) at.steps x.first at.goes in
    x.holds g x.first x.last is refl timing x.ended keeps
