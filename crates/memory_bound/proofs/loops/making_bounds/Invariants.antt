use Rattle.std.proofs.Common.{take}
use Rattle.memory_bound.specs.Loops.{AreMakingBounds}
use Rattle.memory_bound.proofs.loops.making_bounds.Given as goal

abbrev pub invariant-loop-i : goal.invariant-loop-i
invariant-loop-i l = AreMakingBounds (take l.i l.making) l.bounds l.found.items
