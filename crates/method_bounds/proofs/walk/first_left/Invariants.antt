use Rattle.std.proofs.Common.{All, take}
use Rattle.method_bounds.specs.Walking.{IsOrdered}
use Rattle.method_bounds.proofs.walk.first_left.Given as goal

abbrev pub invariant-loop-t : goal.invariant-loop-t
invariant-loop-t l = All (IsOrdered l.states) (take l.t-index l.targets)
