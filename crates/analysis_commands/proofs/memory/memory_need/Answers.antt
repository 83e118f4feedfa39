use Rattle.analysis_commands.proofs.Needs.{answer_ok, answer_err, texts_refused}
use Rattle.analysis_commands.proofs.memory.memory_need.Goals as goal

pub returns-in-Ok-clause-need : goal.returns-in-Ok-clause-need
returns-in-Ok-clause-need c = answer_ok c.args.program.now c.args.bounds.now c.args.sizes.now c.in-Ok.given c.in-Ok.ensures.given c.need_given.result c.need_given.ensures.need

pub returns-in-Ok-clause-refused : goal.returns-in-Ok-clause-refused
returns-in-Ok-clause-refused c = answer_err c.args.program.now c.args.bounds.now c.args.sizes.now c.in-Ok.given c.in-Ok.ensures.given c.need_given.result c.need_given.ensures.fault

pub returns-in-Err-clause-refused : goal.returns-in-Err-clause-refused
returns-in-Err-clause-refused c = texts_refused c.args.program.now c.args.bounds.now c.args.sizes.now c.in-Err.refusal c.in-Err.ensures.bad
