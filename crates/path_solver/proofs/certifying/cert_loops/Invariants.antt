use Rattle.std.proofs.Common.{◌≡◌, take}
use Rattle.path_solver.specs.Certifying.{certified}
use Rattle.path_solver.proofs.certifying.cert_loops.Given as goal

abbrev pub invariant-loop-i : goal.invariant-loop-i
invariant-loop-i l = l.found.items ≡ certified (take l.i l.loops) l.iteration_costs
