use Rattle.std.proofs.Common.{take}
use Rattle.compact_walks.specs.Limited.{AreSmallAt}
use Rattle.compact_walks.proofs.limited.are_small.Given as goal

abbrev pub invariant-loop-x : goal.invariant-loop-x
invariant-loop-x l = AreSmallAt (take l.x-index l.nodes) l.costs
