use Rattle.std.proofs.Common.{true, false, take}
use Rattle.path_solver.specs.Ordering.{AreTaken}
use Rattle.path_solver.proofs.ordering.taken.Given as goal

abbrev pub invariant-loop-i : goal.invariant-loop-i
invariant-loop-i l = record {
  onward : AreTaken (take l.i l.edges) l.loops l.listed false l.onward.items;
  backward : AreTaken (take l.i l.edges) l.loops l.listed true l.backward.items;
}
