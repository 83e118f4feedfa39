use Rattle.std.proofs.Common.{take}
use Rattle.memory_bound.specs.Words.{IsGreatestOf}
use Rattle.memory_bound.proofs.words.greatest_heap.Given as goal

abbrev pub invariant-loop-t : goal.invariant-loop-t
invariant-loop-t l = IsGreatestOf l.table (take l.t-index l.targets) l.greatest
