use Rattle.std.proofs.Common.{take}
use Rattle.method_bounds.specs.Sorting.{ArePicked}
use Rattle.method_bounds.proofs.sorting.without_cause.Given as goal

abbrev pub invariant-loop-m : goal.invariant-loop-m
invariant-loop-m l = ArePicked l.causes (take l.m-index l.order) l.picked.items
