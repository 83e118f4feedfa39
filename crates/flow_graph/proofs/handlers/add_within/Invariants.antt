use Rattle.flow_graph.specs.Growing.{Grows}
use Rattle.flow_graph.proofs.Growing.{Upto}
use Rattle.flow_graph.proofs.Catching.{IsPlaceEdge}
use Rattle.flow_graph.proofs.handlers.add_within.Given as goal

abbrev pub invariant-loop-i : goal.invariant-loop-i
invariant-loop-i l = Grows l.fn.edges.items l.edges.items (Upto (IsPlaceEdge l.places l.first l.last l.handler) l.i)
