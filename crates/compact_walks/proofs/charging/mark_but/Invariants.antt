use Rattle.std.proofs.Common.{take}
use Rattle.compact_walks.specs.Charging.{AreMarkedBut}
use Rattle.compact_walks.proofs.charging.mark_but.Given as goal

abbrev pub invariant-loop-u : goal.invariant-loop-u
invariant-loop-u l = AreMarkedBut (take l.u-index l.members) l.header l.fn.marks l.marks
