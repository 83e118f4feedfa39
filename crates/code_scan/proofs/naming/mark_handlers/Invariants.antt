use Rattle.code_scan.specs.Marks.{Marks}
use Rattle.code_scan.proofs.Marking.{Upto, HandledAt}
use Rattle.code_scan.proofs.naming.mark_handlers.Given as goal

abbrev pub invariant-loop-range : goal.invariant-loop-range
invariant-loop-range l = Marks l.fn.marks.items l.marks.items (Upto (HandledAt l.ranges) l.range-index)
