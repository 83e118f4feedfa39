use Rattle.std.proofs.Common.{◌≡◌, arith}
use Rattle.run_devices.specs.Lent.{lent}
use Rattle.run_commands.proofs.Held.{held_with}
use Rattle.run_commands.proofs.Watched.{same_trace}
use Rattle.run_commands.proofs.linked_settings.run_held.Goals as goal

pub returns-in-256-clause-ran : goal.returns-in-256-clause-ran
returns-in-256-clause-ran g c =
    let is : c.args.settings.now.stack ≡ 256 = omega arith in
    held_with c.args.settings.now c.args.show c.args.linked.now c.program-program.result.now c.layout-layout.result.now 256 c.plan_of-plan.result
    (lent (g.S.Source.left c.args.input.now) (g.S.Source.faults c.args.input.now) (g.O.Sink.held c.args.out.now) (g.O.Sink.faults c.args.out.now) (g.V.Watch.held c.args.watch.now))
    (lent (g.S.Source.left c.run_linked.new.input) (g.S.Source.faults c.run_linked.new.input) (g.O.Sink.held c.run_linked.new.out) (g.O.Sink.faults c.run_linked.new.out) (g.V.Watch.held c.run_linked.new.watch)) c.run_linked.result c.requires.codes c.requires.memory
    c.program-program.ensures.program c.layout-layout.ensures.laid is c.plan_of-plan.ensures.config c.plan_of-plan.ensures.limit c.plan_of-plan.ensures.show c.run_linked.ensures.ran c.run_linked.ensures.class

pub returns-in-512-clause-ran : goal.returns-in-512-clause-ran
returns-in-512-clause-ran g c =
    let is : c.args.settings.now.stack ≡ 512 = omega arith in
    held_with c.args.settings.now c.args.show c.args.linked.now c.program-program.result.now c.layout-layout.result.now 512 c.plan_of-plan.result
    (lent (g.S.Source.left c.args.input.now) (g.S.Source.faults c.args.input.now) (g.O.Sink.held c.args.out.now) (g.O.Sink.faults c.args.out.now) (g.V.Watch.held c.args.watch.now))
    (lent (g.S.Source.left c.run_linked-in-512.new.input) (g.S.Source.faults c.run_linked-in-512.new.input) (g.O.Sink.held c.run_linked-in-512.new.out) (g.O.Sink.faults c.run_linked-in-512.new.out) (g.V.Watch.held c.run_linked-in-512.new.watch)) c.run_linked-in-512.result c.requires.codes c.requires.memory
    c.program-program.ensures.program c.layout-layout.ensures.laid is c.plan_of-plan.ensures.config c.plan_of-plan.ensures.limit c.plan_of-plan.ensures.show c.run_linked-in-512.ensures.ran c.run_linked-in-512.ensures.class

pub returns-in_default-clause-ran : goal.returns-in_default-clause-ran
returns-in_default-clause-ran g c =
    let is : c.args.settings.now.stack ≡ 1024 = omega (arith, c.requires.settings.stack, c.in_default) in
    held_with c.args.settings.now c.args.show c.args.linked.now c.program-program.result.now c.layout-layout.result.now 1024 c.plan_of-plan.result
    (lent (g.S.Source.left c.args.input.now) (g.S.Source.faults c.args.input.now) (g.O.Sink.held c.args.out.now) (g.O.Sink.faults c.args.out.now) (g.V.Watch.held c.args.watch.now))
    (lent (g.S.Source.left c.run_linked-in_default.new.input) (g.S.Source.faults c.run_linked-in_default.new.input) (g.O.Sink.held c.run_linked-in_default.new.out) (g.O.Sink.faults c.run_linked-in_default.new.out) (g.V.Watch.held c.run_linked-in_default.new.watch)) c.run_linked-in_default.result c.requires.codes c.requires.memory
    c.program-program.ensures.program c.layout-layout.ensures.laid is c.plan_of-plan.ensures.config c.plan_of-plan.ensures.limit c.plan_of-plan.ensures.show c.run_linked-in_default.ensures.ran c.run_linked-in_default.ensures.class

pub returns-in-256-clause-watch : goal.returns-in-256-clause-watch
returns-in-256-clause-watch g c = λ trace. c.run_linked.ensures.watch (same_trace _ _ c.plan_of-plan.ensures.show trace)

pub returns-in-512-clause-watch : goal.returns-in-512-clause-watch
returns-in-512-clause-watch g c = λ trace. c.run_linked-in-512.ensures.watch (same_trace _ _ c.plan_of-plan.ensures.show trace)

pub returns-in_default-clause-watch : goal.returns-in_default-clause-watch
returns-in_default-clause-watch g c = λ trace. c.run_linked-in_default.ensures.watch (same_trace _ _ c.plan_of-plan.ensures.show trace)
