use Rattle.std.proofs.Common.{length, take}
use Rattle.class_hierarchy.proofs.Filled.{IsFilled, AreSuperclassesOf}
use Rattle.class_hierarchy.proofs.above.superclass_lists.Given as goal

abbrev pub invariant-loop-class : goal.invariant-loop-class
invariant-loop-class l = IsFilled (AreSuperclassesOf l.classes) (length l.classes) (take l.class-index l.order) l.table.items
