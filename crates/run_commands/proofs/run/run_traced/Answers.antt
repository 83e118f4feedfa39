use Rattle.std.proofs.Common.{refl, ap, rules}
use Rattle.boundary.specs.Traces.{texts}
use Rattle.run_commands.proofs.Ended.{as_trace}
use Rattle.run_commands.proofs.run.run_traced.Goals as goal

pub returns : goal.returns
returns g c watch =
    let d = c.new-device.result in
    let made = c.new-device.ensures in
    as_trace (texts c.args.names.now) c.args.limit c.args.running.now c.trace.new.running.machine c.args.cycles d.cycles (g.S.Source.left c.args.input.now) (g.S.Source.left d.input.now) (g.S.Source.faults c.args.input.now) (g.S.Source.faults d.input.now)
    (g.O.Sink.held c.args.out.now) (g.O.Sink.held d.out.now) (g.O.Sink.faults c.args.out.now) d.write_faults d.seen_faults watch _ _ c.trace.result made.cycles (ap g.S.Source.left made.input) (ap g.S.Source.faults made.input) (ap g.O.Sink.held made.out)
    made.write_faults made.seen_faults (search rules) (search rules) (search rules) (search rules) (search rules) refl c.trace.ensures.traces
