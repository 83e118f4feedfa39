use Rattle.std.proofs.Common.{◌≤◌, take}
use Rattle.path_solver.specs.Distances.{distance_limit, IsMost, cost_through}
use Rattle.path_solver.proofs.distances.greatest_end.Given as goal

abbrev pub invariant-loop-u : goal.invariant-loop-u
invariant-loop-u l = record { most : IsMost (cost_through l.costs l.dist) (take l.u-index l.ends) l.greatest; limited : l.greatest ≤ distance_limit }
