use Rattle.slot_table.proofs.Plans as law
use Rattle.slot_table.proofs.laws.executive_calls_slots.Goals as goal

pub returns : goal.returns
returns c = law.calls_slots
