use Rattle.std.proofs.Common.{◌<◌, ◌≤◌, All, take}
use Rattle.loop_marks.proofs.marking.span_of.Given as goal

abbrev pub invariant-loop-other : goal.invariant-loop-other
invariant-loop-other l = (l.first ≤ l.node) × (l.node < l.end) × All (λ u. (l.first ≤ u) × (u < l.end)) (take l.other-index l.others)
