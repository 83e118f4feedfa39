use Rattle.flow_graph.specs.Growing.{Grows}
use Rattle.flow_graph.proofs.Growing.{Upto}
use Rattle.flow_graph.proofs.Noting.{IsStartEdge}
use Rattle.flow_graph.proofs.edges.add_going_on.Given as goal

abbrev pub invariant-loop-pc : goal.invariant-loop-pc
invariant-loop-pc l = Grows l.fn.edges.items l.edges.items (Upto (IsStartEdge l.m l.fn.goes) l.pc-index)
