use Rattle.std.proofs.Common.{take}
use Rattle.memory_bound.specs.Needs.{NoneLacksLength}
use Rattle.memory_bound.proofs.causes.first_unlimited.Given as goal

abbrev pub invariant-loop-m : goal.invariant-loop-m
invariant-loop-m l = NoneLacksLength l.table (take l.m-index l.methods)
