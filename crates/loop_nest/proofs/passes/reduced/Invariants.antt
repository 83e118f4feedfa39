use Rattle.std.proofs.Common.{length}
use Rattle.loop_nest.specs.Entered.{names, IsClassList, AreBackEdgesMarked}
use Rattle.loop_nest.proofs.passes.reduced.Given as goal

abbrev pub invariant-loop-alloc : goal.invariant-loop-alloc
invariant-loop-alloc l = record { classes : IsClassList l.g l.class.items; marked : AreBackEdgesMarked l.g l.class.items l.back.items }

abbrev pub decreases-loop-alloc : goal.decreases-loop-alloc
decreases-loop-alloc l = length (names l.class.items)
