use Rattle.std.proofs.Common.{arith}
use Rattle.run_commands.proofs.Ended.{unbroken}
use Rattle.run_commands.proofs.Followed.{follows_so}
use Rattle.run_commands.proofs.following.follow.Goals as goal

pub run_followed-end-requires : goal.run_followed-end-requires
run_followed-end-requires g c = (omega arith, (unbroken c.args.running.now c.requires.started, c.requires.few))

pub returns-clause-follows : goal.returns-clause-follows
returns-clause-follows g c = λ h s.
    follows_so g.F.Follower.after h c.args.running.now c.run_followed-end.new.running.machine c.machine.result.now c.args.limit _ _ c.args.follower.now c.run_followed-end.new.follower c.run_followed-end.result c.counts_of.result s c.run_followed-end.ensures.follows
    c.machine.ensures c.counts_of.ensures
