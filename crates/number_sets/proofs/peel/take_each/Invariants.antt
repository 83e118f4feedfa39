use Rattle.number_sets.specs.Numbers.{IsPeeled}
use Rattle.number_sets.proofs.peel.take_each.Given as goal

abbrev pub invariant-loop-number : goal.invariant-loop-number
invariant-loop-number l = IsPeeled l.above l.order
