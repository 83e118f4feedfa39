use Rattle.flow_graph.specs.Growing.{Grows}
use Rattle.flow_graph.specs.Raising.{IsCovered}
use Rattle.flow_graph.proofs.Growing.{Upto}
use Rattle.flow_graph.proofs.Catching.{IsRangeEdge}
use Rattle.flow_graph.proofs.handlers.add_handlers.Given as goal

abbrev pub invariant-loop-range : goal.invariant-loop-range
invariant-loop-range l = record {
  grows : Grows l.fn.edges.items l.edges.items (Upto (IsRangeEdge l.places l.range-items) l.range-index);
  covered : IsCovered l.places l.covered l.edges.items;
}
