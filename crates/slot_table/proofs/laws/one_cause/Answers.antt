use Rattle.slot_table.proofs.OneReading as law
use Rattle.slot_table.proofs.laws.one_cause.Goals as goal

pub returns : goal.returns
returns c = law.one_cause
