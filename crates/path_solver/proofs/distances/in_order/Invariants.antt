use Rattle.std.proofs.Common.{◌≡◌, take, map, get_or}
use Rattle.path_solver.proofs.distances.in_order.Given as goal

abbrev pub invariant-loop-i : goal.invariant-loop-i
invariant-loop-i l = l.nodes.items ≡ map (λ r. get_or l.order r 0) (take l.i-index l.i-items)
