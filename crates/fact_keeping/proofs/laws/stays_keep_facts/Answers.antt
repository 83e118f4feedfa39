use Rattle.fact_keeping.proofs.Keeping.{stays_keep_facts}
use Rattle.fact_keeping.proofs.laws.stays_keep_facts.Goals as goal

pub returns : goal.returns
returns c = stays_keep_facts
