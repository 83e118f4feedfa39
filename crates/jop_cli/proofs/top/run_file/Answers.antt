use Rattle.std.proofs.Common.{ap}
use Rattle.endings.specs.World.{world}
use Rattle.jop_cli.proofs.Executing.{runs_read}
use Rattle.jop_cli.proofs.top.run_file.Goals as goal

pub returns-in-Ok-clause-runs : goal.returns-in-Ok-clause-runs
returns-in-Ok-clause-runs g c =
    let read = c.in-Ok.ensures in
    let ran = c.run_bytes.ensures in
    runs_read c.args.settings.now c.args.show c.args.word c.in-Ok.bytes.items c.deref.result.now
    (world (g.F.Files.words c.args.files.now) (g.F.Files.told c.args.files.now) (g.F.Files.faults c.args.files.now) (g.S.Source.left c.args.input.now) (g.S.Source.faults c.args.input.now) (g.O.Sink.held c.args.out.now) (g.O.Sink.faults c.args.out.now) (g.V.Watch.held c.args.watch.now))
    (world (g.F.Files.words c.load.new.files) (g.F.Files.told c.load.new.files) (g.F.Files.faults c.load.new.files) (g.S.Source.left c.run_bytes.new.input) (g.S.Source.faults c.run_bytes.new.input) (g.O.Sink.held c.run_bytes.new.out) (g.O.Sink.faults c.run_bytes.new.out) (g.V.Watch.held c.run_bytes.new.watch))
    c.run_bytes.result (cc c.deref.ensures.value) (record { files = record { rest = read.rest; later = read.later }; whole = read.whole; short = read.short }) ran.bare ran.linked
    (λ bare. let same = ran.input bare in record { left = ap g.S.Source.left same; read_faults = ap g.S.Source.faults same })
