use Rattle.path_solver.specs.Ordering.{AreStarts}
use Rattle.path_solver.proofs.ordering.starts.Given as goal

abbrev pub invariant-loop-u : goal.invariant-loop-u
invariant-loop-u l = AreStarts l.listed l.waiting l.u l.nodes.items
