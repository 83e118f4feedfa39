use Rattle.std.proofs.Common.{◌≡◌, ◌-◌, ℕ, List, [], ◌∷◌}
use Rattle.bytecode_model.specs.State.{State}
use Rattle.boundary.specs.Answers.{HasFrames}
use Rattle.boundary.specs.Setting.{Setting}
use Rattle.boundary.specs.Session.{IsStateOf}
use Rattle.run_devices.specs.Traced.{traced}
use Rattle.boundary.specs.Traces.{texts}
use Rattle.boundary.proofs.Tracing.{Far}
use Rattle.boundary.proofs.traces.trace_to_end.Given as goal

abbrev pub invariant-loop-running : goal.invariant-loop-running
invariant-loop-running g l = record {
  names : ◌≡◌ {A = List ℕ} (l.device.input.ghost_name ∷ l.device.out.ghost_name ∷ []) (l.fn.device.input.ghost_name ∷ l.fn.device.out.ghost_name ∷ []);
  methods : l.running.methods ≡ l.fn.running.methods;
  mode : HasFrames l.running.mode;
  far : (h : Setting) (s : State) → IsStateOf h l.fn.running.methods l.fn.running.machine s → Far l.fn.device.cycles (texts l.names) h l.limit (record { machine = l.fn.running.machine; state = s }) l.running.machine
      (traced l.fn.device.cycles (g.S.Source.left l.fn.device.input.now) (g.S.Source.faults l.fn.device.input.now) (g.O.Sink.held l.fn.device.out.now) l.fn.device.write_faults l.fn.device.seen_faults)
      (traced l.device.cycles (g.S.Source.left l.device.input.now) (g.S.Source.faults l.device.input.now) (g.O.Sink.held l.device.out.now) l.device.write_faults l.device.seen_faults);
}

abbrev pub decreases-loop-running : goal.decreases-loop-running
decreases-loop-running g l = l.limit - l.running.machine.clock
