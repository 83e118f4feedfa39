use Rattle.run_devices.proofs.Fronts.{rose_to, later, write_failed}
use Rattle.run_devices.proofs.device.TraceDeviceDevices.output.Goals as goal

pub returns-in-Err-clause-told : goal.returns-in-Err-clause-told
returns-in-Err-clause-told g c =
    let self = c.args.self.now in
    let put = c.in-Err.ensures.put in
    let cause = c.in-Err.ensures.cause in
    let failed = write_failed self.cycles (g.S.Source.left self.input.now) (g.S.Source.faults self.input.now) (g.O.Sink.held self.out.now) (g.O.Sink.held c.put_write.new.sink) self.write_faults c.faults-self.result self.seen_faults c.args.byte put.0 put.1 put.2
    (later self.write_faults (g.O.Sink.faults self.out.now) (g.O.Sink.faults c.put_write.new.sink) c.faults-self.result self.writes cause.later c.faults-self.ensures) in
    (failed.0, failed.1, rose_to self.write_faults (g.O.Sink.faults self.out.now) (g.O.Sink.faults c.put_write.new.sink) c.faults-self.result self.writes cause.failed c.faults-self.ensures)
