use Rattle.std.proofs.Common.{◌≤◌, drop, length}
use Rattle.std.specs.List.{filter_map}
use Rattle.class_hierarchy.specs.Members.{declared_as}
use Rattle.class_hierarchy.proofs.Reaching.{AreReached}
use Rattle.class_hierarchy.proofs.selecting.first_overriding.Given as goal

abbrev pub invariant-loop-i : goal.invariant-loop-i
invariant-loop-i l = (l.i ≤ length l.list) × AreReached l.classes l.resolved.place (filter_map (declared_as l.classes l.resolved.place) (drop l.i l.list)) l.found l.free

abbrev pub decreases-loop-i : goal.decreases-loop-i
decreases-loop-i l = l.i
