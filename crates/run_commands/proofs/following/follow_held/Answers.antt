use Rattle.std.proofs.Common.{◌≡◌, arith}
use Rattle.run_commands.proofs.Followed.{follows_with}
use Rattle.run_commands.proofs.following.follow_held.Goals as goal

pub returns-in-256-clause-follows : goal.returns-in-256-clause-follows
returns-in-256-clause-follows g c =
    let is : c.args.settings.now.stack ≡ 256 = omega arith in
    follows_with g.F.Follower.after c.args.settings.now c.args.linked.now c.program-program.result.now c.layout-layout.result.now 256 c.plan_of-plan.result (g.D.Devices.told c.args.device.now) (g.D.Devices.told c.follow_linked.new.device) c.args.follower.now
    c.follow_linked.new.follower c.follow_linked.result c.program-program.ensures.program c.layout-layout.ensures.laid is c.plan_of-plan.ensures.config c.plan_of-plan.ensures.limit c.follow_linked.ensures.follows

pub returns-in-512-clause-follows : goal.returns-in-512-clause-follows
returns-in-512-clause-follows g c =
    let is : c.args.settings.now.stack ≡ 512 = omega arith in
    follows_with g.F.Follower.after c.args.settings.now c.args.linked.now c.program-program.result.now c.layout-layout.result.now 512 c.plan_of-plan.result (g.D.Devices.told c.args.device.now) (g.D.Devices.told c.follow_linked-in-512.new.device) c.args.follower.now
    c.follow_linked-in-512.new.follower c.follow_linked-in-512.result c.program-program.ensures.program c.layout-layout.ensures.laid is c.plan_of-plan.ensures.config c.plan_of-plan.ensures.limit c.follow_linked-in-512.ensures.follows

pub returns-in_default-clause-follows : goal.returns-in_default-clause-follows
returns-in_default-clause-follows g c =
    let is : c.args.settings.now.stack ≡ 1024 = omega (arith, c.requires.settings.stack, c.in_default) in
    follows_with g.F.Follower.after c.args.settings.now c.args.linked.now c.program-program.result.now c.layout-layout.result.now 1024 c.plan_of-plan.result (g.D.Devices.told c.args.device.now) (g.D.Devices.told c.follow_linked-in_default.new.device) c.args.follower.now
    c.follow_linked-in_default.new.follower c.follow_linked-in_default.result c.program-program.ensures.program c.layout-layout.ensures.laid is c.plan_of-plan.ensures.config c.plan_of-plan.ensures.limit c.follow_linked-in_default.ensures.follows
