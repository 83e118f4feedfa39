use Rattle.std.proofs.Common.{◌≡◌, [], replicate}
use Rattle.number_sets.proofs.number_set.empty_sets.Given as goal

abbrev pub invariant-loop-index : goal.invariant-loop-index
invariant-loop-index l = l.sets.items ≡ replicate l._index []
