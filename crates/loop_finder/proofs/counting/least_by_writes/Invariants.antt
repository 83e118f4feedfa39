use Rattle.std.proofs.Common.{take}
use Rattle.std.specs.Prelude.{IfSome}
use Rattle.loop_marks.specs.Marking.{AreMarksOf, IsRest}
use Rattle.loop_finder.specs.Counting.{AreBefore}
use Rattle.loop_finder.proofs.Known.{IsLeastSoFar}
use Rattle.loop_finder.proofs.counting.least_by_writes.Given as goal

abbrev pub invariant-loop-node : goal.invariant-loop-node
invariant-loop-node l =
    AreMarksOf l.body.graph l.marks → AreBefore l.body l.marks.header l.writes.before.items
    → IsLeastSoFar l.body l.marks.header (take l.node-index l.marks.nodes) l.known.least × IfSome l.known.rest (λ flags. IsRest l.body.graph l.marks.header flags.items)
