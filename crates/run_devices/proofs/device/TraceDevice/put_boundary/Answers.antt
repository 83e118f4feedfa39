use Rattle.run_devices.proofs.Fronts.{front_in_part, rose_to, later, rests}
use Rattle.run_devices.proofs.device.TraceDevice.put_boundary.Goals as goal

pub returns-in-Err-clause-put : goal.returns-in-Err-clause-put
returns-in-Err-clause-put g c =
    let self = c.args.self.now in
    let put = c.in-Err.ensures.put in
    let cause = c.in-Err.ensures.cause in
    record {
      rests = rests self.cycles (g.S.Source.left self.input.now) (g.S.Source.faults self.input.now) (g.O.Sink.held self.out.now) (g.O.Sink.held c.put_boundary.new.sink) self.write_faults c.faults-self.result self.seen_faults
          (later self.write_faults (g.O.Sink.faults self.out.now) (g.O.Sink.faults c.put_boundary.new.sink) c.faults-self.result self.writes cause.later c.faults-self.ensures);
      noted = front_in_part _ _ _ put.0 put.1 put.2;
      rose = rose_to self.write_faults (g.O.Sink.faults self.out.now) (g.O.Sink.faults c.put_boundary.new.sink) c.faults-self.result self.writes cause.failed c.faults-self.ensures;
    }
