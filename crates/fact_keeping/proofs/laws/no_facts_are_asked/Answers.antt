use Rattle.fact_keeping.proofs.Keeping.{no_facts_are_asked}
use Rattle.fact_keeping.proofs.laws.no_facts_are_asked.Goals as goal

pub returns : goal.returns
returns c = no_facts_are_asked
