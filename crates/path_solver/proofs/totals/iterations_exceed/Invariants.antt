use Rattle.std.proofs.Common.{take}
use Rattle.path_solver.proofs.AddingUp.{AreTotals}
use Rattle.path_solver.proofs.totals.iterations_exceed.Given as goal

abbrev pub invariant-loop-i : goal.invariant-loop-i
invariant-loop-i l = AreTotals (take l.i l.loops) (take l.i l.iteration_costs) l.nodes l.totals.items
