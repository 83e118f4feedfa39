use Rattle.std.proofs.Common.{◌≡◌, take}
use Rattle.flow_graph.specs.Numbering.{renumbered_nodes}
use Rattle.flow_graph.proofs.numbering.renumbered_nodes.Given as goal

abbrev pub invariant-loop-node : goal.invariant-loop-node
invariant-loop-node l = l.new.items ≡ renumbered_nodes l.flags l.numbers (take l.node-index l.nodes)
