use Rattle.std.proofs.Common.{take}
use Rattle.path_solver.specs.Distances.{sources_at, AreSpread}
use Rattle.path_solver.proofs.distances.spread.Given as goal

abbrev pub invariant-loop-u : goal.invariant-loop-u
invariant-loop-u l = AreSpread (sources_at l.sources) l.costs l.fees (take l.u-index l.nodes) l.fn.dist l.dist
