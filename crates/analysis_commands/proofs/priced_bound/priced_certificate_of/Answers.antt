use Rattle.analysis_commands.proofs.priced_bound.priced_certificate_of.Goals as goal

pub better_of-requires-clause-plain : goal.better_of-requires-clause-plain
better_of-requires-clause-plain c = c.in-Ok.ensures.certificate c.args.facts.now
