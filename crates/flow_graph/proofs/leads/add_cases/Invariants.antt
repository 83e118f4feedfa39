use Rattle.flow_graph.specs.Growing.{Grows}
use Rattle.flow_graph.specs.Naming.{case_places}
use Rattle.flow_graph.proofs.Growing.{Upto}
use Rattle.flow_graph.proofs.Leading.{IsCaseEdge}
use Rattle.flow_graph.proofs.leads.add_cases.Given as goal

abbrev pub invariant-loop-index : goal.invariant-loop-index
invariant-loop-index l = Grows l.fn.edges.items l.edges.items (Upto (IsCaseEdge (case_places l.code l.pc l.instr) l.pc) l.index)
