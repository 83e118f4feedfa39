use Rattle.std.proofs.Common.{◌≡◌, take}
use Rattle.bound_finder.proofs.costs.widened.Given as goal

abbrev pub invariant-loop-cost : goal.invariant-loop-cost
invariant-loop-cost l = l.costs.items ≡ take l.cost-index l.own
