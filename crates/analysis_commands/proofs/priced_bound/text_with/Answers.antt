use Rattle.analysis_commands.proofs.priced_bound.text_with.Goals as goal

pub returns-in-Ok-clause-refused : goal.returns-in-Ok-clause-refused
returns-in-Ok-clause-refused c = c.priced_text.ensures.memory c.args.analysis.now c.args.name.now
