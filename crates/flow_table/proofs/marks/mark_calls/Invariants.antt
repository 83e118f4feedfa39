use Rattle.std.proofs.Common.{take}
use Rattle.flow_table.specs.Marks.{AreMarked}
use Rattle.flow_table.proofs.marks.mark_calls.Given as goal

abbrev pub invariant-loop-call : goal.invariant-loop-call
invariant-loop-call l = AreMarked l.coded (take l.call-index l.calls) l.initial.marks.items l.marks.items
