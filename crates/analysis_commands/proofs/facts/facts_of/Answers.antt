use Rattle.analysis_commands.proofs.FactLines.{text_refused}
use Rattle.analysis_commands.proofs.facts.facts_of.Goals as goal

pub returns-in-Err-clause-refused : goal.returns-in-Err-clause-refused
returns-in-Err-clause-refused c = text_refused c.args.flow.now c.args.text.now c.in-Err.refusal c.in-Err.ensures.refused
