use Rattle.slot_table.proofs.OneReading as law
use Rattle.slot_table.proofs.laws.read_is_a_table.Goals as goal

pub returns : goal.returns
returns c = law.read_table
