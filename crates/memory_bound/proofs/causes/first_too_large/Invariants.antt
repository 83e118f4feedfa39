use Rattle.std.proofs.Common.{take}
use Rattle.memory_bound.specs.Needs.{NoneTooLarge}
use Rattle.memory_bound.proofs.causes.first_too_large.Given as goal

abbrev pub invariant-loop-m : goal.invariant-loop-m
invariant-loop-m l = NoneTooLarge l.table (take l.m-index l.methods)
