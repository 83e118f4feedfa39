use Rattle.run_commands.proofs.Worked.{forbidden_work}
use Rattle.run_commands.proofs.working.returned_line.Goals as goal

pub returns-in-Err-clause-fault : goal.returns-in-Err-clause-fault
returns-in-Err-clause-fault c =
    forbidden_work c.args.n c.args.linked.now c.args.output.now c.args.counts c.in-Err.ending c.requires.work c.requires.returned c.in-Err.ensures.forbids
