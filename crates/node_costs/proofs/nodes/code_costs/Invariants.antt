use Rattle.node_costs.proofs.Filling.{AreFilled}
use Rattle.node_costs.proofs.nodes.code_costs.Given as goal

abbrev pub invariant-loop-pc : goal.invariant-loop-pc
invariant-loop-pc l = AreFilled l.code l.t l.raise l.pc-items l.pc-index l.costs.items
