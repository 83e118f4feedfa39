use Rattle.std.proofs.Common.{◌≡◌, IfErr, sym, subst, rules}
use Rattle.std.specs.declared.result.Result.{Result}
use Rattle.device_traits.specs.declared.fault.DeviceFault.{DeviceFault}
use Rattle.jop_core.proofs.Failing.{err_is}
use Rattle.run_devices.specs.Traced.{traced}
use Rattle.boundary.specs.declared.answer.Boundary.{Boundary}
use Rattle.boundary.specs.Activations.{Stage}
use Rattle.boundary.specs.Traces.{StepTraces, StepTracesAll, texts}
use Rattle.boundary.proofs.Whole.{mode_goes}
use Rattle.boundary.proofs.Tracing.{line_failed, step_traced}
use Rattle.boundary.proofs.traces.trace_step.Goals as goal

pub returns-in_err-put_line-clause-steps : goal.returns-in_err-put_line-clause-steps
unfolding StepTracesAll
returns-in_err-put_line-clause-steps g c = λ h s is.
    let fault = c.in_err-put_line.field-0.0 in
    let same : IfErr c.from_residual.result (λ e. e ≡ fault) = search rules in
    let old = c.args.device.now in
    let new = c.put_line.new.device in
    let a : Stage = (record { machine = c.args.running.now.machine; state = s }) in
    let t0 = (traced old.cycles (g.S.Source.left old.input.now) (g.S.Source.faults old.input.now) (g.O.Sink.held old.out.now) old.write_faults old.seen_faults) in
    let t1 = (traced new.cycles (g.S.Source.left new.input.now) (g.S.Source.faults new.input.now) (g.O.Sink.held new.out.now) new.write_faults new.seen_faults) in
    let P : Result Boundary DeviceFault → Type 0 = λ r. StepTraces (texts c.args.names.now) h a c.args.running.now.machine t0 t1 r in
    subst P (sym (err_is c.from_residual.result fault c.from_residual.ensures.0 same)) (line_failed (texts c.args.names.now) h a t0 t1 fault (c.in_err-put_line.ensures.put h s is))

pub returns-clause-steps : goal.returns-clause-steps
unfolding StepTracesAll
returns-clause-steps g c = λ h s is.
    let old = c.args.device.now in
    let shown = c.put_line.new.device in
    let new = c.bytecode.new.device in
    step_traced (texts c.args.names.now) h (record { machine = c.args.running.now.machine; state = s }) c.bytecode.new.self.machine
    (traced old.cycles (g.S.Source.left old.input.now) (g.S.Source.faults old.input.now) (g.O.Sink.held old.out.now) old.write_faults old.seen_faults)
    (traced shown.cycles (g.S.Source.left shown.input.now) (g.S.Source.faults shown.input.now) (g.O.Sink.held shown.out.now) shown.write_faults shown.seen_faults)
    (traced new.cycles (g.S.Source.left new.input.now) (g.S.Source.faults new.input.now) (g.O.Sink.held new.out.now) new.write_faults new.seen_faults)
    c.bytecode.result (c.in_ok-put_line.ensures.put h s is) (c.bytecode.ensures.steps (mode_goes c.args.running.now.mode c.requires.going) h s is.is_setting is.stands)

pub returns-clause-time : goal.returns-clause-time
returns-clause-time g c = c.bytecode.ensures.time (mode_goes c.args.running.now.mode c.requires.going)
