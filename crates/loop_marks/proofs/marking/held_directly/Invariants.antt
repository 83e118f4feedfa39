use Rattle.std.proofs.Common.{◌≡◌, slice_index}
use Rattle.loop_marks.specs.Marking.{AreHeldDirectly}
use Rattle.loop_marks.proofs.marking.held_directly.Given as goal

abbrev pub invariant-loop-l : goal.invariant-loop-l
invariant-loop-l l = (l.marks.first ≡ l.members.first) × AreHeldDirectly (slice_index l.nodes) l.nest l.index l.l-index l.members.items l.marks.items
