use Rattle.std.proofs.Common.{ℕ, ◌<◌}
use Rattle.memory_bound.specs.Loops.{LacksAt}
use Rattle.memory_bound.proofs.loops.first_unbounded.Given as goal

abbrev pub invariant-loop-i : goal.invariant-loop-i
invariant-loop-i l = (k : ℕ) → k < l.i → LacksAt l.making l.bounds k → ⊥
