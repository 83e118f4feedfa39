use Rattle.std.proofs.Common.{◌≡◌, ◌++◌, take}
use Rattle.loop_nest.specs.Digraph.{targets_of}
use Rattle.flow_graph.proofs.reach.push_from.Given as goal

abbrev pub invariant-loop-edge : goal.invariant-loop-edge
invariant-loop-edge l = l.stack.items ≡ l.fn.stack.items ++ targets_of (take l.edge-index l.edges) l.node
