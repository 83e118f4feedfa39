use Rattle.std.proofs.Common.{◌-◌, length}
use Rattle.path_solver.proofs.Costing.{AreLoopCostsSoFar}
use Rattle.path_solver.proofs.loop_costs.costs_of_loops.Given as goal

abbrev pub invariant-loop-k : goal.invariant-loop-k
invariant-loop-k l = AreLoopCostsSoFar l.topology l.loops l.costs l.bounds l.loads (length l.topology.order.items - l.k) l.iteration_costs.items l.fees.items l.dist.items
