use Rattle.std.proofs.Common.{subst, Some, []}
use Rattle.jop_core.specs.Reset.{bare_reset}
use Rattle.boundary.specs.Setting.{bare_setting}
use Rattle.run_devices.specs.Lent.{lent}
use Rattle.endings.specs.Show.{Shown}
use Rattle.run_commands.specs.BareFile.{RanImage}
use Rattle.run_commands.proofs.Watched.{bare_is_traced}
use Rattle.run_commands.proofs.bare_file.run_bare.Goals as goal

pub returns-in-Ok-clause-ran : goal.returns-in-Ok-clause-ran
returns-in-Ok-clause-ran g c =
    subst
    (λ (shown : Shown). RanImage shown (bare_setting c.args.bare.now g.row.N c.args.plan.config.memory) (bare_reset g.row.N c.args.bare.now c.args.plan.config) c.args.plan.limit (lent (Some []) 0 (g.O.Sink.held c.args.out.now) (g.O.Sink.faults c.args.out.now) (g.V.Watch.held c.args.watch.now))
    (lent (Some []) 0 (g.O.Sink.held c.run_image.new.out) (g.O.Sink.faults c.run_image.new.out) (g.V.Watch.held c.run_image.new.watch)) c.run_image.result)
    c.in-Ok.ensures c.run_image.ensures.ran

pub returns-in-Ok-clause-watch : goal.returns-in-Ok-clause-watch
returns-in-Ok-clause-watch g c = λ trace. c.run_image.ensures.watch (bare_is_traced _ _ c.in-Ok.ensures trace)
