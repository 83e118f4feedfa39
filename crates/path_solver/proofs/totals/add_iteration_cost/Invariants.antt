use Rattle.std.proofs.Common.{take}
use Rattle.path_solver.specs.Totals.{AreIterationsAdded}
use Rattle.path_solver.proofs.totals.add_iteration_cost.Given as goal

abbrev pub invariant-loop-u : goal.invariant-loop-u
invariant-loop-u l = AreIterationsAdded (take l.u-index l.members) l.iteration_cost l.fn.totals l.totals
