use Rattle.std.proofs.Common.{arith}
use Rattle.jop_core.specs.Reset.{linked_reset}
use Rattle.endings.specs.Show.{shown_by}
use Rattle.endings.specs.Settings.{linked_setting}
use Rattle.run_commands.proofs.Ended.{ran_from, has_restarted, class_there}
use Rattle.endings.proofs.Named.{named_by}
use Rattle.run_commands.proofs.linked_machine.run_methods.Goals as goal

pub run_to_end-requires : goal.run_to_end-requires
run_to_end-requires g c = (
  omega arith,
  (has_restarted (linked_setting c.args.program.now g.row.N c.args.plan.config.memory) (linked_reset g.row.N c.args.layout.now.words c.args.plan.config) c.in-Ok.running c.in-Ok.ensures.started, (c.requires.few, named_by (shown_by c.args.shown.now) c.args.methods.now c.in-Ok.running.methods c.in-Ok.ensures.methods c.requires.named)),
)

pub returns-in-Ok-clause-ran : goal.returns-in-Ok-clause-ran
returns-in-Ok-clause-ran g c =
    ran_from (shown_by c.args.shown.now) (linked_setting c.args.program.now g.row.N c.args.plan.config.memory) (linked_reset g.row.N c.args.layout.now.words c.args.plan.config) c.in-Ok.running c.args.plan.limit _ _ c.run_to_end.result c.in-Ok.ensures.started c.run_to_end.ensures.ran

pub returns-in-Ok-clause-class : goal.returns-in-Ok-clause-class
returns-in-Ok-clause-class g c =
    let ran =
    ran_from (shown_by c.args.shown.now) (linked_setting c.args.program.now g.row.N c.args.plan.config.memory) (linked_reset g.row.N c.args.layout.now.words c.args.plan.config) c.in-Ok.running c.args.plan.limit _ _ c.run_to_end.result c.in-Ok.ensures.started c.run_to_end.ensures.ran in
    class_there c.uncaught_classes_are_there.ensures (shown_by c.args.shown.now) c.args.program.now g.row.N c.args.plan.config.memory (linked_reset g.row.N c.args.layout.now.words c.args.plan.config) c.args.plan.limit _ _ c.run_to_end.result.end ran.run
