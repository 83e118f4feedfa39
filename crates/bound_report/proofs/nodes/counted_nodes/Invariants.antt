use Rattle.std.proofs.Common.{◌≡◌, take}
use Rattle.bound_report.specs.Nodes.{counted_nodes}
use Rattle.bound_report.proofs.nodes.counted_nodes.Given as goal

abbrev pub invariant-loop-i : goal.invariant-loop-i
invariant-loop-i l = l.counted.items ≡ counted_nodes l.own l.callees (take l.i l.nodes) (take l.i l.visits)
