use Rattle.std.proofs.Common.{take}
use Rattle.flow_table.specs.Marks.{HasMarks}
use Rattle.flow_table.proofs.marks.marks_of.Given as goal

abbrev pub invariant-loop-method : goal.invariant-loop-method
invariant-loop-method l = HasMarks l.coded l.count (take l.method-index l.methods) l.marks.items
