use Rattle.std.proofs.Common.{take}
use Rattle.bound_finder.specs.Sharing.{AreMethodBounds}
use Rattle.bound_finder.proofs.sharing.bounds.Given as goal

abbrev pub invariant-loop-m : goal.invariant-loop-m
invariant-loop-m l = AreMethodBounds l.task (take l.m-index l.order) l.bounds.items
