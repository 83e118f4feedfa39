use Rattle.std.proofs.Common.{◌≡◌, Bool, true, [], subst, sym}
use Rattle.device_traits.specs.Told.{Saw, PassedInPart, OnlySees}
use Rattle.run_devices.specs.Traced.{traced}
use Rattle.run_devices.proofs.Fronts.{rose_to, later, cycle_failed}
use Rattle.run_devices.proofs.device.TraceDeviceDevices.seen.Goals as goal

pub returns-in-Err-clause-told : goal.returns-in-Err-clause-told
returns-in-Err-clause-told g c =
    let self = c.args.self.now in
    let put = c.in-Err.ensures.put in
    let cause = c.in-Err.ensures.cause in
    let P : Bool → Type 0 = λ cycles.
    PassedInPart (traced cycles (g.S.Source.left self.input.now) (g.S.Source.faults self.input.now) (g.O.Sink.held self.out.now) self.write_faults self.seen_faults) (traced cycles (g.S.Source.left self.input.now) (g.S.Source.faults self.input.now) (g.O.Sink.held c.put_cycle.new.sink) self.write_faults c.faults-self.result) [] [] (Saw c.args.at)
    × OnlySees (traced cycles (g.S.Source.left self.input.now) (g.S.Source.faults self.input.now) (g.O.Sink.held self.out.now) self.write_faults self.seen_faults) (traced cycles (g.S.Source.left self.input.now) (g.S.Source.faults self.input.now) (g.O.Sink.held c.put_cycle.new.sink) self.write_faults c.faults-self.result) in
    let shown : self.cycles ≡ true = c.if-not-self.false in
    let failed = subst P (sym shown) (cycle_failed (g.S.Source.left self.input.now) (g.S.Source.faults self.input.now) (g.O.Sink.held self.out.now) (g.O.Sink.held c.put_cycle.new.sink) self.write_faults self.seen_faults c.faults-self.result put.0 c.args.at put.1 put.2
    (later self.seen_faults (g.O.Sink.faults self.out.now) (g.O.Sink.faults c.put_cycle.new.sink) c.faults-self.result self.sees cause.later c.faults-self.ensures)) in
    (failed.0, failed.1, rose_to self.seen_faults (g.O.Sink.faults self.out.now) (g.O.Sink.faults c.put_cycle.new.sink) c.faults-self.result self.sees cause.failed c.faults-self.ensures)
