use Rattle.std.proofs.Common.{length, take}
use Rattle.class_hierarchy.proofs.Filled.{IsFilled, AreInherited}
use Rattle.class_hierarchy.proofs.above.inherited_lists.Given as goal

abbrev pub invariant-loop-class : goal.invariant-loop-class
invariant-loop-class l = IsFilled (AreInherited l.classes) (length l.classes) (take l.class-index l.order) l.table.items
