use Rattle.std.proofs.Common.{arith}
use Rattle.jop_core.specs.Reset.{linked_reset}
use Rattle.endings.specs.Settings.{linked_setting}
use Rattle.run_commands.proofs.Ended.{has_restarted}
use Rattle.run_commands.proofs.Followed.{follows_from}
use Rattle.run_commands.proofs.following.follow_methods.Goals as goal

pub follow-requires : goal.follow-requires
follow-requires g c = (
  omega arith,
  (has_restarted (linked_setting c.args.program.now g.row.N c.args.plan.config.memory) (linked_reset g.row.N c.args.layout.now.words c.args.plan.config) c.in-Ok.running c.in-Ok.ensures.started, c.requires.few),
)

pub returns-in-Ok-clause-follows : goal.returns-in-Ok-clause-follows
returns-in-Ok-clause-follows g c =
    follows_from g.F.Follower.after (linked_setting c.args.program.now g.row.N c.args.plan.config.memory) (linked_reset g.row.N c.args.layout.now.words c.args.plan.config) c.in-Ok.running c.args.plan.limit _ _ c.args.follower.now c.follow.new.follower c.follow.result
    c.in-Ok.ensures.started c.follow.ensures.follows
