use Rattle.std.proofs.Common.{◌≡◌, ◌-◌, ◌^◌}
use Rattle.micro_sketch.proofs.Stepping.{Underway}
use Rattle.micro_sketch.proofs.step.to_boundary.Given as goal

abbrev pub invariant-loop-machine : goal.invariant-loop-machine
invariant-loop-machine g l = record {
  names : g.D.Devices.names l.device ≡ g.D.Devices.names l.fn.device;
  far : Underway l.fn.machine l.machine (g.D.Devices.told l.fn.device) (g.D.Devices.told l.device);
}

abbrev pub decreases-loop-machine : goal.decreases-loop-machine
decreases-loop-machine g l = 2 ^ 64 - l.machine.clock
