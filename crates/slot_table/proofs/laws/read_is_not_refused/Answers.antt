use Rattle.slot_table.proofs.OneReading as law
use Rattle.slot_table.proofs.laws.read_is_not_refused.Goals as goal

pub returns : goal.returns
returns c = law.read_not_refused
