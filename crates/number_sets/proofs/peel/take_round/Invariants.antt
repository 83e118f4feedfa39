use Rattle.number_sets.specs.Numbers.{IsPeeled}
use Rattle.number_sets.proofs.Peeling.{Went}
use Rattle.number_sets.proofs.peel.take_round.Given as goal

abbrev pub invariant-loop-number : goal.invariant-loop-number
invariant-loop-number l = IsPeeled l.above l.order × Went l.above l.initial.order l.order l.number l.any
