use Rattle.std.proofs.Common.{take}
use Rattle.memory_bound.specs.Needs.{NoneLacksBound}
use Rattle.memory_bound.proofs.causes.first_unbounded.Given as goal

abbrev pub invariant-loop-m : goal.invariant-loop-m
invariant-loop-m l = NoneLacksBound l.table (take l.m-index l.methods)
