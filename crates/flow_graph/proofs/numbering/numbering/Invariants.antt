use Rattle.flow_graph.specs.Numbering.{AreNumbered}
use Rattle.flow_graph.proofs.numbering.numbering.Given as goal

abbrev pub invariant-loop-x : goal.invariant-loop-x
invariant-loop-x l = AreNumbered l.flags l.x l.nodes.items l.numbers.items
