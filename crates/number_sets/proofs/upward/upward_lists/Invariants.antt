use Rattle.std.proofs.Common.{take}
use Rattle.number_sets.proofs.UpwardLemmas.{IsBuilt}
use Rattle.number_sets.proofs.upward.upward_lists.Given as goal

abbrev pub invariant-loop-number : goal.invariant-loop-number
invariant-loop-number l = IsBuilt l.above (take l.number-index l.order) l.table.items
