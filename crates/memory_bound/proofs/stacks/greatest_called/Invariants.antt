use Rattle.std.proofs.Common.{take}
use Rattle.std.specs.Prelude.{slice_index}
use Rattle.memory_bound.specs.Stacks.{IsGreatestAmong, IsCalled}
use Rattle.memory_bound.proofs.stacks.greatest_called.Given as goal

abbrev pub invariant-loop-call : goal.invariant-loop-call
invariant-loop-call l = IsGreatestAmong (IsCalled l.f (take l.call-index l.calls)) (slice_index l.stacks) l.greatest
