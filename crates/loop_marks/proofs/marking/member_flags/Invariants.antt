use Rattle.std.proofs.Common.{◌≡◌, false, replicate, take}
use Rattle.compact_walks.specs.Charging.{AreMarked}
use Rattle.loop_marks.proofs.marking.member_flags.Given as goal

abbrev pub invariant-loop-node : goal.invariant-loop-node
invariant-loop-node l = (l.flags.first ≡ l.first) × AreMarked (take l.node-index l.nodes) (replicate l.end false) l.flags.items
