use Rattle.std.proofs.Common.{◌≡◌, [], Some, arith}
use Rattle.run_devices.specs.Lent.{lent}
use Rattle.run_commands.proofs.Settled.{with_settings}
use Rattle.run_commands.proofs.Watched.{same_trace}
use Rattle.run_commands.proofs.bare_file.run_with.Goals as goal

pub returns-in-256-clause-ran : goal.returns-in-256-clause-ran
returns-in-256-clause-ran g c =
    let is : c.args.settings.now.stack ≡ 256 = omega arith in
    with_settings c.args.settings.now c.args.show 256 c.args.bare.now c.plan_of-plan.result (lent (Some []) 0 (g.O.Sink.held c.args.out.now) (g.O.Sink.faults c.args.out.now) (g.V.Watch.held c.args.watch.now))
    (lent (Some []) 0 (g.O.Sink.held c.run_bare.new.out) (g.O.Sink.faults c.run_bare.new.out) (g.V.Watch.held c.run_bare.new.watch)) c.run_bare.result is c.requires.room c.plan_of-plan.ensures.config c.plan_of-plan.ensures.limit c.plan_of-plan.ensures.show c.run_bare.ensures.ran

pub returns-in-512-clause-ran : goal.returns-in-512-clause-ran
returns-in-512-clause-ran g c =
    let is : c.args.settings.now.stack ≡ 512 = omega arith in
    with_settings c.args.settings.now c.args.show 512 c.args.bare.now c.plan_of-plan.result (lent (Some []) 0 (g.O.Sink.held c.args.out.now) (g.O.Sink.faults c.args.out.now) (g.V.Watch.held c.args.watch.now))
    (lent (Some []) 0 (g.O.Sink.held c.run_bare-in-512.new.out) (g.O.Sink.faults c.run_bare-in-512.new.out) (g.V.Watch.held c.run_bare-in-512.new.watch)) c.run_bare-in-512.result is c.requires.room c.plan_of-plan.ensures.config c.plan_of-plan.ensures.limit c.plan_of-plan.ensures.show c.run_bare-in-512.ensures.ran

pub returns-in_default-clause-ran : goal.returns-in_default-clause-ran
returns-in_default-clause-ran g c =
    let is : c.args.settings.now.stack ≡ 1024 = omega (arith, c.requires.settings.stack, c.in_default) in
    with_settings c.args.settings.now c.args.show 1024 c.args.bare.now c.plan_of-plan.result (lent (Some []) 0 (g.O.Sink.held c.args.out.now) (g.O.Sink.faults c.args.out.now) (g.V.Watch.held c.args.watch.now))
    (lent (Some []) 0 (g.O.Sink.held c.run_bare-in_default.new.out) (g.O.Sink.faults c.run_bare-in_default.new.out) (g.V.Watch.held c.run_bare-in_default.new.watch)) c.run_bare-in_default.result is c.requires.room c.plan_of-plan.ensures.config c.plan_of-plan.ensures.limit c.plan_of-plan.ensures.show c.run_bare-in_default.ensures.ran

pub returns-in-256-clause-watch : goal.returns-in-256-clause-watch
returns-in-256-clause-watch g c = λ trace. c.run_bare.ensures.watch (same_trace _ _ c.plan_of-plan.ensures.show trace)

pub returns-in-512-clause-watch : goal.returns-in-512-clause-watch
returns-in-512-clause-watch g c = λ trace. c.run_bare-in-512.ensures.watch (same_trace _ _ c.plan_of-plan.ensures.show trace)

pub returns-in_default-clause-watch : goal.returns-in_default-clause-watch
returns-in_default-clause-watch g c = λ trace. c.run_bare-in_default.ensures.watch (same_trace _ _ c.plan_of-plan.ensures.show trace)
