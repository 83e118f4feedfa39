use Rattle.std.proofs.Common.{take}
use Rattle.bound_finder.specs.Prepared.{AreAllSome}
use Rattle.bound_finder.proofs.charges.first_none.Given as goal

abbrev pub invariant-loop-i : goal.invariant-loop-i
invariant-loop-i l = AreAllSome (take l.i l.found)
