use Rattle.std.proofs.Common.{take}
use Rattle.compact_walks.specs.Charging.{AreInner}
use Rattle.compact_walks.proofs.charging.inner.Given as goal

abbrev pub invariant-loop-i : goal.invariant-loop-i
invariant-loop-i l = AreInner (take l.i l.loops) (take l.i l.flags) l.size l.marks.items
