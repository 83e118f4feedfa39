use Rattle.std.proofs.Common.{◌≡◌, true, take}
use Rattle.std.specs.List.{list_all}
use Rattle.class_rules.specs.Tests.{is_right_method}
use Rattle.class_rules.proofs.methods.are_right_methods.Given as goal

abbrev pub invariant-loop-m : goal.invariant-loop-m
invariant-loop-m l = list_all (is_right_method l.pool l.forms l.class_flags) (take l.m-index l.members) ≡ true
