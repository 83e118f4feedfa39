use Rattle.flow_graph.specs.Growing.{Grows}
use Rattle.flow_graph.proofs.Growing.{Upto}
use Rattle.flow_graph.proofs.Noting.{IsStepEdge}
use Rattle.flow_graph.proofs.edges.add_raise_steps.Given as goal

abbrev pub invariant-loop-place : goal.invariant-loop-place
invariant-loop-place l = Grows l.fn.edges.items l.edges.items (Upto (IsStepEdge l.places) l.place-index)
