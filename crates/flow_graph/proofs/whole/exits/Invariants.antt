use Rattle.std.proofs.Common.{[]}
use Rattle.flow_graph.specs.Edges.{IsExitAt}
use Rattle.flow_graph.specs.Growing.{Grows}
use Rattle.flow_graph.proofs.Growing.{Upto}
use Rattle.flow_graph.proofs.whole.exits.Given as goal

abbrev pub invariant-loop-node : goal.invariant-loop-node
invariant-loop-node l = Grows [] l.exits.items (Upto (IsExitAt l.code l.flags) l.node)
