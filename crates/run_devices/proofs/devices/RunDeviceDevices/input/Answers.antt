use Rattle.std.proofs.Common.{arith}
use Rattle.run_devices.specs.Lent.{lent}
use Rattle.run_devices.proofs.Taken.{took}
use Rattle.run_devices.proofs.devices.RunDeviceDevices.input.Goals as goal

pub returns-in-Ok-clause-told : goal.returns-in-Ok-clause-told
returns-in-Ok-clause-told g c =
    let told = c.in-Ok.ensures.told in
    let cause = c.in-Ok.ensures.cause in
    took (lent (g.S.Source.left c.args.self.now.input.now) (g.S.Source.faults c.args.self.now.input.now) (g.O.Sink.held c.args.self.now.out.now) (g.O.Sink.faults c.args.self.now.out.now) (g.V.Watch.held c.args.self.now.watch.now))
    (g.S.Source.left c.take.new.self) (g.S.Source.faults c.take.new.self) c.in-Ok.field-0 c.take.new.piece c.given.result (omega (arith, c.take.auto.piece)) (omega (arith, c.in-Ok.ensures.bound, c.take.auto.piece, c.in-Ok.field-0-test.1)) c.given.ensures.is
    c.given.ensures.small told cause.later
