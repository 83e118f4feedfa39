use Rattle.std.proofs.Common.{◌≡◌, map, slice_index, take}
use Rattle.loop_marks.specs.Flags.{AreMarkedAmong}
use Rattle.loop_marks.proofs.marking.mark_among.Given as goal

abbrev pub invariant-loop-u : goal.invariant-loop-u
invariant-loop-u l = (l.marks.first ≡ l.fn.marks.first) × AreMarkedAmong l.members.items (map (slice_index l.nodes) (take l.u-index l.us)) l.fn.marks.items l.marks.items
