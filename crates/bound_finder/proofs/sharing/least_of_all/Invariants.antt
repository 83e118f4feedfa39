use Rattle.std.proofs.Common.{take}
use Rattle.bound_finder.specs.Sharing.{AreLeastWithin}
use Rattle.bound_finder.proofs.sharing.least_of_all.Given as goal

abbrev pub invariant-loop-m : goal.invariant-loop-m
invariant-loop-m l = AreLeastWithin l.task (take l.m-index l.order) l.table l.least.items
