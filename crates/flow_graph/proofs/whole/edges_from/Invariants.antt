use Rattle.std.proofs.Common.{◌≡◌, take}
use Rattle.flow_graph.specs.Numbering.{edges_from}
use Rattle.flow_graph.proofs.whole.edges_from.Given as goal

abbrev pub invariant-loop-edge : goal.invariant-loop-edge
invariant-loop-edge l = l.kept.items ≡ edges_from l.flags (take l.edge-index l.edges)
