use Rattle.std.proofs.Common.{◌≡◌, ◌<◌, ◌≤◌, length, get_or, None, true}
use Rattle.std.specs.Prelude.{is_some}
use Rattle.class_hierarchy.specs.Selecting.{selected_at, AreKnown}
use Rattle.class_hierarchy.proofs.receivers.fill.Given as goal

abbrev pub invariant-loop-i : goal.invariant-loop-i
invariant-loop-i l =
    (l.i ≤ length l.list)
    × AreKnown (selected_at l.resolved.classes.now l.resolved.of_interface l.resolved.method.place) (length l.resolved.classes.now) l.table.items
    × (l.i < length l.list → is_some (get_or l.table.items (get_or l.list l.i 0) None) ≡ true)

abbrev pub decreases-loop-i : goal.decreases-loop-i
decreases-loop-i l = l.i
