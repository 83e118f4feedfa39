use Rattle.bound_finder.proofs.Added.{AreAddedTo}
use Rattle.bound_finder.proofs.costs.add.Given as goal

abbrev pub invariant-loop-i : goal.invariant-loop-i
invariant-loop-i l = AreAddedTo l.fn.costs l.calls l.told l.without_loads l.i l.costs
