use Rattle.std.proofs.Common.{map, slice_index, take}
use Rattle.compact_walks.specs.Charging.{AreMarked}
use Rattle.compact_walks.proofs.charging.mark.Given as goal

abbrev pub invariant-loop-u : goal.invariant-loop-u
invariant-loop-u l = AreMarked (map (slice_index l.nodes) (take l.u-index l.members)) l.fn.marks l.marks
