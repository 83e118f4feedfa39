use Rattle.std.proofs.Common.{◌≡◌, take}
use Rattle.flow_graph.specs.Numbering.{renumbered_edges}
use Rattle.flow_graph.proofs.numbering.renumbered_edges.Given as goal

abbrev pub invariant-loop-edge : goal.invariant-loop-edge
invariant-loop-edge l = l.new.items ≡ renumbered_edges l.flags l.numbers (take l.edge-index l.edges)
