use Rattle.std.proofs.Common.{None}
use Rattle.run_devices.specs.Lent.{lent}
use Rattle.run_commands.proofs.Profiled.{profiles_of}
use Rattle.run_commands.proofs.profiling.run_totals.Goals as goal

pub returns-clause-profiles : goal.returns-clause-profiles
returns-clause-profiles g c =
    profiles_of c.runs_are_in_a_row.ensures c.seen_are_within.ensures c.profiles_are_told.ensures.rows c.profiles_are_exact.ensures c.args.settings.now c.args.linked.now (lent (g.S.Source.left c.args.input.now) (g.S.Source.faults c.args.input.now) None 0 None)
    (lent (g.S.Source.left c.follow_lent.new.input) (g.S.Source.faults c.follow_lent.new.input) None 0 None) c.args.totals.now c.follow_lent.new.follower c.follow_lent.result c.follow_lent.ensures.follows
