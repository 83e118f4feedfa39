use Rattle.flow_graph.proofs.Noting.{AreNoted}
use Rattle.flow_graph.proofs.edges.going_on.Given as goal

abbrev pub invariant-loop-i : goal.invariant-loop-i
invariant-loop-i l = AreNoted l.calls l.goes l.size l.i l.flags.items
