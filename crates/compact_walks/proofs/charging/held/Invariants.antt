use Rattle.std.proofs.Common.{slice_index, take}
use Rattle.compact_walks.specs.Charging.{AreHeld}
use Rattle.compact_walks.proofs.charging.held.Given as goal

abbrev pub invariant-loop-i : goal.invariant-loop-i
invariant-loop-i l = AreHeld (slice_index l.nodes) (take l.i l.loops) (take l.i l.flags) l.size l.marks.items
