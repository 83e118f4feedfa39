use Rattle.analysis_commands.proofs.bound.bound_text.Goals as goal

pub returns-in-Ok-clause-refused : goal.returns-in-Ok-clause-refused
returns-in-Ok-clause-refused c = c.certificate_text.ensures.memory c.args.analysis.now c.args.name.now
