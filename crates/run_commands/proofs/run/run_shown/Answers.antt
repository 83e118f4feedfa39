use Rattle.run_commands.proofs.Ended.{as_shown}
use Rattle.run_commands.proofs.run.run_shown.Goals as goal

pub returns-in-Output-clause-runs : goal.returns-in-Output-clause-runs
returns-in-Output-clause-runs g c = as_shown c.args.shown.now c.args.limit c.args.running.now c.run.new.running.machine _ _ c.run.result (cc c.in-Output.is) c.run.ensures
