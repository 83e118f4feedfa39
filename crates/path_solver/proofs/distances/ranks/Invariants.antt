use Rattle.std.proofs.Common.{◌≡◌, take, map, get_or}
use Rattle.path_solver.specs.Distances.{others_of}
use Rattle.path_solver.proofs.distances.ranks.Given as goal

abbrev pub invariant-loop-u : goal.invariant-loop-u
invariant-loop-u l = l.ranks.items ≡ map (λ u. get_or l.places u 0) (others_of (take l.u-index l.members) l.header)
