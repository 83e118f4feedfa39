use Rattle.std.proofs.Common.{take}
use Rattle.bound_finder.specs.Methods.{AreMethodsFound}
use Rattle.bound_finder.proofs.methods.examine_all.Given as goal

abbrev pub invariant-loop-m : goal.invariant-loop-m
invariant-loop-m l = AreMethodsFound l.task (take l.m-index l.order) l.all
