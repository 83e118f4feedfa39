use Rattle.std.proofs.Common.{◌++◌, take}
use Rattle.number_sets.specs.Numbers.{IsSameSearch}
use Rattle.number_sets.proofs.number_set.NumberSet.insert_all.Given as goal

abbrev pub invariant-loop-number : goal.invariant-loop-number
invariant-loop-number l = IsSameSearch l.self (l.initial.self ++ take l.number-index l.numbers)
