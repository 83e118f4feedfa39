use Rattle.slot_table.proofs.OneReading as law
use Rattle.slot_table.proofs.laws.gives_one.Goals as goal

pub returns : goal.returns
returns c = law.gives_one
