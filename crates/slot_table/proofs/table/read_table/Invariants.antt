use Rattle.slot_table.proofs.Reading.{IsReadSoFar}
use Rattle.slot_table.proofs.table.read_table.Given as goal

abbrev pub invariant-loop-line : goal.invariant-loop-line
invariant-loop-line l = IsReadSoFar l.text l.number l.line-iterator l.slots.items
