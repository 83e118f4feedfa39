use Rattle.std.proofs.Common.{take, Contains}
use Rattle.std.specs.Prelude.{slice_index}
use Rattle.memory_bound.specs.Stacks.{IsGreatestAmong}
use Rattle.memory_bound.proofs.stacks.greatest_at.Given as goal

abbrev pub invariant-loop-t : goal.invariant-loop-t
invariant-loop-t l = IsGreatestAmong (Contains (take l.t-index l.targets)) (slice_index l.stacks) l.greatest
