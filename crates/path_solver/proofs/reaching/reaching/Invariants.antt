use Rattle.std.proofs.Common.{◌+◌, ◌*◌, suc, length}
use Rattle.path_solver.specs.Reaching.{IsBackwardSearch}
use Rattle.path_solver.proofs.Sources.{unset}
use Rattle.path_solver.proofs.reaching.reaching.Given as goal

abbrev pub invariant-loop-u : goal.invariant-loop-u
invariant-loop-u l = IsBackwardSearch l.g l.stack.items l.reaching.items

abbrev pub decreases-loop-u : goal.decreases-loop-u
decreases-loop-u l = unset l.reaching.items * suc (length l.g.edges) + length l.stack.items
