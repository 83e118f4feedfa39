use Rattle.std.proofs.Common.{◌++◌, take}
use Rattle.std.specs.List.{flat_map}
use Rattle.number_sets.specs.Numbers.{entry, IsSameSearch}
use Rattle.number_sets.proofs.marked.MarkedSet.insert_lists.Given as goal

abbrev pub invariant-loop-number : goal.invariant-loop-number
invariant-loop-number l = IsSameSearch l.self (l.initial.self ++ flat_map (entry l.table) (take l.number-index l.numbers))
