use Rattle.std.proofs.Common.{◌≡◌, Ok, Err, IfErr, refl, ap, sym, subst, ◌∙◌, rules, arith}
use Rattle.std.specs.declared.result.Result.{Result}
use Rattle.device_traits.specs.declared.fault.DeviceFault.{DeviceFault}
use Rattle.jop_core.specs.State as machine
use Rattle.jop_core.proofs.Failing.{err_is}
use Rattle.run_devices.specs.Traced.{traced}
use Rattle.boundary.specs.declared.runs.RunEnd.{RunEnd}
use Rattle.boundary.specs.Traces.{TracesAll, TracesTo, texts}
use Rattle.boundary.proofs.Whole.{goes_from, state_goes}
use Rattle.boundary.proofs.Tracing.{far_none, far_on, far_ended, far_uncaught, far_broken, far_spent, all_steps}
use Rattle.boundary.proofs.traces.trace_to_end.Goals as goal

pub loop-running-init : goal.loop-running-init
loop-running-init g c =
    let mode = c.args.running.now.mode in
    let device = c.args.device.now in
    record {
      names = refl;
      methods = refl;
      mode = c.requires.going;
      far = λ h s is.
          far_none c.runs_add_up.ensures c.cycles_keep.ensures device.cycles (texts c.args.names.now) h c.args.limit (record { machine = c.args.running.now.machine; state = s })
          (traced device.cycles (g.S.Source.left device.input.now) (g.S.Source.faults device.input.now) (g.O.Sink.held device.out.now) device.write_faults device.seen_faults) is.stands
          (state_goes mode c.mode-mode.result c.requires.going c.mode-mode.ensures.is c.args.running.now.machine c.mode-mode.ensures.all h s is.is_setting is.stands);
    }

pub loop-running-preserved : goal.loop-running-preserved
loop-running-preserved g c =
    let names = texts c.args.names.now in
    let here = c.loop-running.running in
    let device = c.args.device.now in
    let before = c.loop-running.device in
    let after = c.trace_step.new.device in
    let mode = c.trace_step.result in
    let going = goes_from mode c.in_ok-trace_step.field-0 c.in_ok-trace_step.was c.in-Bytecode.is in
    record {
      names = c.trace_step.ensures.names ∙ c.loop-running.invariant.names;
      methods = c.trace_step.ensures.methods ∙ c.loop-running.invariant.methods;
      mode = goes_from c.trace_step.new.running.mode c.in_ok-trace_step.field-0 (c.trace_step.ensures.mode going ∙ c.in_ok-trace_step.was) c.in-Bytecode.is;
      far = λ h s is. far_on c.runs_add_up.ensures c.cycles_keep.ensures device.cycles names h c.args.limit (record { machine = c.args.running.now.machine; state = s }) here.machine c.trace_step.new.running.machine
          (traced device.cycles (g.S.Source.left device.input.now) (g.S.Source.faults device.input.now) (g.O.Sink.held device.out.now) device.write_faults device.seen_faults)
          (traced before.cycles (g.S.Source.left before.input.now) (g.S.Source.faults before.input.now) (g.O.Sink.held before.out.now) before.write_faults before.seen_faults)
          (traced after.cycles (g.S.Source.left after.input.now) (g.S.Source.faults after.input.now) (g.O.Sink.held after.out.now) after.write_faults after.seen_faults) refl (c.loop-running.invariant.far h s is)
          (omega (arith, c.loop-running-test.true, c.clock.ensures, ap (λ (m : machine.MachineState). m.clock) c.machine.ensures)) c.in_ok-trace_step.field-0 c.in-Bytecode.is (all_steps names h s c.args.running.now here c.trace_step.new.running.machine (traced before.cycles (g.S.Source.left before.input.now) (g.S.Source.faults before.input.now) (g.O.Sink.held before.out.now) before.write_faults before.seen_faults) (traced after.cycles (g.S.Source.left after.input.now) (g.S.Source.faults after.input.now) (g.O.Sink.held after.out.now) after.write_faults after.seen_faults) (Ok c.in_ok-trace_step.field-0) c.loop-running.invariant.methods is c.in_ok-trace_step.ensures.steps);
    }

pub returns-in_err-trace_step-clause-traces : goal.returns-in_err-trace_step-clause-traces
unfolding TracesAll
returns-in_err-trace_step-clause-traces g c = λ h s is.
    let names = texts c.args.names.now in
    let here = c.loop-running.running in
    let device = c.args.device.now in
    let before = c.loop-running.device in
    let after = c.trace_step.new.device in
    let fault = c.in_err-trace_step.field-0.0 in
    let same : IfErr c.from_residual.result (λ e. e ≡ fault) = search rules in
    let P : Result RunEnd DeviceFault → Type 0 = λ r. TracesTo device.cycles names h c.args.limit (record { machine = c.args.running.now.machine; state = s }) c.trace_step.new.running.machine (traced device.cycles (g.S.Source.left device.input.now) (g.S.Source.faults device.input.now) (g.O.Sink.held device.out.now) device.write_faults device.seen_faults) (traced after.cycles (g.S.Source.left after.input.now) (g.S.Source.faults after.input.now) (g.O.Sink.held after.out.now) after.write_faults after.seen_faults) r in
    subst P (sym (err_is c.from_residual.result fault c.from_residual.ensures.0 same))
    (far_broken c.runs_add_up.ensures c.cycles_keep.ensures device.cycles names h c.args.limit (record { machine = c.args.running.now.machine; state = s }) here.machine c.trace_step.new.running.machine
    (traced device.cycles (g.S.Source.left device.input.now) (g.S.Source.faults device.input.now) (g.O.Sink.held device.out.now) device.write_faults device.seen_faults)
    (traced before.cycles (g.S.Source.left before.input.now) (g.S.Source.faults before.input.now) (g.O.Sink.held before.out.now) before.write_faults before.seen_faults)
    (traced after.cycles (g.S.Source.left after.input.now) (g.S.Source.faults after.input.now) (g.O.Sink.held after.out.now) after.write_faults after.seen_faults) refl (c.loop-running.invariant.far h s is)
    (omega (arith, c.loop-running-test.true, c.clock.ensures, ap (λ (m : machine.MachineState). m.clock) c.machine.ensures)) fault (all_steps names h s c.args.running.now here c.trace_step.new.running.machine (traced before.cycles (g.S.Source.left before.input.now) (g.S.Source.faults before.input.now) (g.O.Sink.held before.out.now) before.write_faults before.seen_faults) (traced after.cycles (g.S.Source.left after.input.now) (g.S.Source.faults after.input.now) (g.O.Sink.held after.out.now) after.write_faults after.seen_faults) (Err fault) c.loop-running.invariant.methods is c.in_err-trace_step.ensures.steps))

pub returns-in-Halted-clause-traces : goal.returns-in-Halted-clause-traces
unfolding TracesAll
returns-in-Halted-clause-traces g c = λ h s is.
    let names = texts c.args.names.now in
    let here = c.loop-running.running in
    let device = c.args.device.now in
    let before = c.loop-running.device in
    let after = c.trace_step.new.device in
    far_ended c.runs_add_up.ensures c.cycles_keep.ensures device.cycles names h c.args.limit (record { machine = c.args.running.now.machine; state = s }) here.machine c.trace_step.new.running.machine
    (traced device.cycles (g.S.Source.left device.input.now) (g.S.Source.faults device.input.now) (g.O.Sink.held device.out.now) device.write_faults device.seen_faults)
    (traced before.cycles (g.S.Source.left before.input.now) (g.S.Source.faults before.input.now) (g.O.Sink.held before.out.now) before.write_faults before.seen_faults)
    (traced after.cycles (g.S.Source.left after.input.now) (g.S.Source.faults after.input.now) (g.O.Sink.held after.out.now) after.write_faults after.seen_faults) refl (c.loop-running.invariant.far h s is)
    (omega (arith, c.loop-running-test.true, c.clock.ensures, ap (λ (m : machine.MachineState). m.clock) c.machine.ensures)) c.in_ok-trace_step.field-0 c.in-Halted.is (all_steps names h s c.args.running.now here c.trace_step.new.running.machine (traced before.cycles (g.S.Source.left before.input.now) (g.S.Source.faults before.input.now) (g.O.Sink.held before.out.now) before.write_faults before.seen_faults) (traced after.cycles (g.S.Source.left after.input.now) (g.S.Source.faults after.input.now) (g.O.Sink.held after.out.now) after.write_faults after.seen_faults) (Ok c.in_ok-trace_step.field-0) c.loop-running.invariant.methods is c.in_ok-trace_step.ensures.steps)

pub returns-in-Uncaught-clause-traces : goal.returns-in-Uncaught-clause-traces
unfolding TracesAll
returns-in-Uncaught-clause-traces g c = λ h s is.
    let names = texts c.args.names.now in
    let here = c.loop-running.running in
    let device = c.args.device.now in
    let before = c.loop-running.device in
    let after = c.trace_step.new.device in
    far_uncaught c.runs_add_up.ensures c.cycles_keep.ensures device.cycles names h c.args.limit (record { machine = c.args.running.now.machine; state = s }) here.machine c.trace_step.new.running.machine
    (traced device.cycles (g.S.Source.left device.input.now) (g.S.Source.faults device.input.now) (g.O.Sink.held device.out.now) device.write_faults device.seen_faults)
    (traced before.cycles (g.S.Source.left before.input.now) (g.S.Source.faults before.input.now) (g.O.Sink.held before.out.now) before.write_faults before.seen_faults)
    (traced after.cycles (g.S.Source.left after.input.now) (g.S.Source.faults after.input.now) (g.O.Sink.held after.out.now) after.write_faults after.seen_faults) refl (c.loop-running.invariant.far h s is)
    (omega (arith, c.loop-running-test.true, c.clock.ensures, ap (λ (m : machine.MachineState). m.clock) c.machine.ensures)) c.in_ok-trace_step.field-0 c.in-Uncaught.class c.in-Uncaught.is (all_steps names h s c.args.running.now here c.trace_step.new.running.machine (traced before.cycles (g.S.Source.left before.input.now) (g.S.Source.faults before.input.now) (g.O.Sink.held before.out.now) before.write_faults before.seen_faults) (traced after.cycles (g.S.Source.left after.input.now) (g.S.Source.faults after.input.now) (g.O.Sink.held after.out.now) after.write_faults after.seen_faults) (Ok c.in_ok-trace_step.field-0) c.loop-running.invariant.methods is c.in_ok-trace_step.ensures.steps)

pub returns-clause-traces : goal.returns-clause-traces
unfolding TracesAll
returns-clause-traces g c = λ h s is.
    let device = c.args.device.now in
    let before = c.loop-running.device in
    far_spent c.runs_add_up.ensures c.cycles_keep.ensures device.cycles (texts c.args.names.now) h c.args.limit (record { machine = c.args.running.now.machine; state = s }) c.loop-running.running.machine (traced device.cycles (g.S.Source.left device.input.now) (g.S.Source.faults device.input.now) (g.O.Sink.held device.out.now) device.write_faults device.seen_faults) (traced before.cycles (g.S.Source.left before.input.now) (g.S.Source.faults before.input.now) (g.O.Sink.held before.out.now) before.write_faults before.seen_faults) (c.loop-running.invariant.far h s is)
    (omega (arith, c.loop-running-test.false, c.clock.ensures, ap (λ (m : machine.MachineState). m.clock) c.machine.ensures))
