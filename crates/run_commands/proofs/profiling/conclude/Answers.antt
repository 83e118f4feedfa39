use Rattle.run_commands.proofs.Said.{said_done}
use Rattle.run_commands.proofs.Profiled.{said_risen}
use Rattle.run_commands.proofs.profiling.conclude.Goals as goal

pub returns-in-Ok-clause-done : goal.returns-in-Ok-clause-done
returns-in-Ok-clause-done g c = λ leaves. said_done c.args.program.now c.args.followed.end c.args.followed.counts c.said.result c.said.ensures leaves

pub returns-in-Ok-clause-rose : goal.returns-in-Ok-clause-rose
returns-in-Ok-clause-rose g c = λ before now rose. said_risen c.args.program.now c.args.followed.end c.args.followed.counts c.said.result before now c.said.ensures rose
