use Rattle.path_solver.proofs.Growing.{IsOrdering}
use Rattle.path_solver.proofs.ordering.forward_order.Given as goal

abbrev pub invariant-loop-i : goal.invariant-loop-i
invariant-loop-i l = IsOrdering l.listed l.edges l.i l.waiting.items l.order.items
