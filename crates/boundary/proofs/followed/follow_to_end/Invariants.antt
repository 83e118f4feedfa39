use Rattle.std.proofs.Common.{◌≡◌, ◌-◌, true}
use Rattle.bytecode_model.specs.State.{State}
use Rattle.image_facts.specs.Methods.{AreMethods}
use Rattle.boundary.specs.Answers.{goes_on}
use Rattle.boundary.specs.Setting.{Setting, IsSetting, Stands}
use Rattle.boundary.proofs.Following.{IsFarTop}
use Rattle.boundary.proofs.followed.follow_to_end.Given as goal

abbrev pub invariant-loop-top : goal.invariant-loop-top
invariant-loop-top g l = record {
  names : g.D.Devices.names l.device ≡ g.D.Devices.names l.fn.device;
  methods : l.running.methods ≡ l.fn.running.methods;
  mode : goes_on l.running.mode ≡ true;
  far : (h : Setting) (s : State) → IsSetting h → Stands h l.fn.running.machine s
      → IsFarTop g.F.Follower.after h l.limit (record { machine = l.fn.running.machine; state = s }) (AreMethods h.program h.places l.fn.running.methods) l.fn.follower
      l.running.machine (g.D.Devices.told l.fn.device) (g.D.Devices.told l.device) l.follower l.top;
}

abbrev pub decreases-loop-top : goal.decreases-loop-top
decreases-loop-top g l = l.limit - l.running.machine.clock
