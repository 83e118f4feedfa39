use Rattle.std.proofs.Common.{lit<, sym, ◌∙◌}
use Rattle.run_devices.specs.Traced.{traced}
use Rattle.boundary.specs.Traces.{TracesAll, texts}
use Rattle.boundary.proofs.Whole.{goes_from}
use Rattle.boundary.proofs.Tracing.{ended_at_once, uncaught_at_once}
use Rattle.boundary.proofs.traces.trace.Goals as goal

pub trace_to_end-requires : goal.trace_to_end-requires
trace_to_end-requires g c = (lit< tt, (goes_from c.args.running.now.mode c.in_ok-mode.field-0 (sym c.mode.ensures.is ∙ c.in_ok-mode.was) c.in-Bytecode.is, (c.requires.few, c.requires.named)))

pub returns-in-Halted-clause-traces : goal.returns-in-Halted-clause-traces
unfolding TracesAll
returns-in-Halted-clause-traces g c = λ h s is.
    let device = c.args.device.now in
    ended_at_once c.runs_add_up.ensures c.cycles_keep.ensures device.cycles (texts c.args.names.now) h c.args.limit (record { machine = c.args.running.now.machine; state = s }) (traced device.cycles (g.S.Source.left device.input.now) (g.S.Source.faults device.input.now) (g.O.Sink.held device.out.now) device.write_faults device.seen_faults) is.stands (c.in_ok-mode.ensures.all h s is.is_setting is.stands ∙ c.in-Halted.is)

pub returns-in-Uncaught-clause-traces : goal.returns-in-Uncaught-clause-traces
unfolding TracesAll
returns-in-Uncaught-clause-traces g c = λ h s is.
    let device = c.args.device.now in
    uncaught_at_once c.runs_add_up.ensures c.cycles_keep.ensures device.cycles (texts c.args.names.now) h c.args.limit (record { machine = c.args.running.now.machine; state = s }) (traced device.cycles (g.S.Source.left device.input.now) (g.S.Source.faults device.input.now) (g.O.Sink.held device.out.now) device.write_faults device.seen_faults) c.in-Uncaught.class is.stands (c.in_ok-mode.ensures.all h s is.is_setting is.stands ∙ c.in-Uncaught.is)
