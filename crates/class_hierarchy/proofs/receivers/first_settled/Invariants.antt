use Rattle.std.proofs.Common.{length}
use Rattle.class_hierarchy.specs.Selecting.{selected_at, AreKnown}
use Rattle.class_hierarchy.proofs.receivers.first_settled.Given as goal

abbrev pub invariant-loop-i : goal.invariant-loop-i
invariant-loop-i l = AreKnown (selected_at l.resolved.classes.now l.resolved.of_interface l.resolved.method.place) (length l.resolved.classes.now) l.table.items
