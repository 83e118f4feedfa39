use Rattle.std.proofs.Common.{◌≤◌, length}
use Rattle.number_sets.specs.Bits.Table.{columns}
use Rattle.class_hierarchy.proofs.Marking.{MarkedBelow}
use Rattle.class_hierarchy.proofs.marks.field_marks.Given as goal

abbrev pub invariant-loop-class : goal.invariant-loop-class
invariant-loop-class l = (length l.classes ≤ columns l.marks) × MarkedBelow (λ k. k.fields) l.classes l.class l.marks
