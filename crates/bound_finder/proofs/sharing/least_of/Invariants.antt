use Rattle.std.proofs.Common.{take}
use Rattle.section_check.specs.Least.{IsLeast}
use Rattle.bound_finder.specs.Sharing.{IsBeside}
use Rattle.bound_finder.proofs.sharing.least_of.Given as goal

abbrev pub invariant-loop-m : goal.invariant-loop-m
invariant-loop-m l = IsLeast (IsBeside l.least (take l.m-index l.methods)) l.found
