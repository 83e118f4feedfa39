use Rattle.std.proofs.Common.{◌-◌, length}
use Rattle.number_sets.specs.Numbers.{IsPeeled}
use Rattle.number_sets.proofs.peel.order_of.Given as goal

abbrev pub invariant-loop-hint : goal.invariant-loop-hint
invariant-loop-hint l = IsPeeled l.above l.order

abbrev pub decreases-loop-hint : goal.decreases-loop-hint
decreases-loop-hint l = length l.above - length l.order
