use Rattle.std.proofs.Common.{◌≡◌, take}
use Rattle.path_solver.specs.Regions.{charged}
use Rattle.bound_report.proofs.walks.fees.Given as goal

abbrev pub invariant-loop-i : goal.invariant-loop-i
invariant-loop-i l = l.fees.items ≡ charged (take l.i l.loads) (take l.i l.flags)
