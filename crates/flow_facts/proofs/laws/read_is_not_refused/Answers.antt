use Rattle.flow_facts.proofs.OneReading as law
use Rattle.flow_facts.proofs.laws.read_is_not_refused.Goals as goal

pub returns : goal.returns
returns c = law.read_is_not_refused
