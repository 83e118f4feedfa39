use Rattle.std.proofs.Common.{◌≡◌, ◌-◌, true}
use Rattle.bytecode_model.specs.State.{State}
use Rattle.boundary.specs.Answers.{goes_on}
use Rattle.boundary.specs.Setting.{Setting, IsSetting, Stands}
use Rattle.boundary.proofs.Whole.{Far}
use Rattle.boundary.proofs.runs.go_to_end.Given as goal

abbrev pub invariant-loop-running : goal.invariant-loop-running
invariant-loop-running g l = record {
  names : g.D.Devices.names l.device ≡ g.D.Devices.names l.fn.device;
  methods : l.running.methods ≡ l.fn.running.methods;
  mode : goes_on l.running.mode ≡ true;
  far : (h : Setting) (s : State) → IsSetting h → Stands h l.fn.running.machine s → Far h l.limit (record { machine = l.fn.running.machine; state = s }) l.running.machine (g.D.Devices.told l.fn.device) (g.D.Devices.told l.device);
}

abbrev pub decreases-loop-running : goal.decreases-loop-running
decreases-loop-running g l = l.limit - l.running.machine.clock
