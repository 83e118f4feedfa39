use Rattle.std.proofs.Common.{◌≡◌, take}
use Rattle.compact_walks.specs.Limited.{picked}
use Rattle.compact_walks.proofs.limited.narrowed.Given as goal

abbrev pub invariant-loop-x : goal.invariant-loop-x
invariant-loop-x l = l.narrowed.items ≡ picked (take l.x-index l.nodes) l.costs
