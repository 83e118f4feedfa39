use Rattle.jop_cli.proofs.NoFacts as law
use Rattle.jop_cli.proofs.laws.no_facts_suppose_nothing.Goals as goal

pub returns-clause-written : goal.returns-clause-written
returns-clause-written c = law.written_without_facts c.no_facts_are_asked.ensures

pub returns-clause-checked : goal.returns-clause-checked
returns-clause-checked c = law.checked_without_facts c.no_facts_are_asked.ensures
