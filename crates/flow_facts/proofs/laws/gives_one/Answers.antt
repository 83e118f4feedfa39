use Rattle.flow_facts.proofs.OneReading as law
use Rattle.flow_facts.proofs.laws.gives_one.Goals as goal

pub returns : goal.returns
returns c = law.gives_one
