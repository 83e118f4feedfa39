use Rattle.std.proofs.Common.{◌≡◌, true, take}
use Rattle.std.specs.List.{list_all}
use Rattle.class_rules.specs.Tests.{is_right_field}
use Rattle.class_rules.proofs.fields.are_right_fields.Given as goal

abbrev pub invariant-loop-m : goal.invariant-loop-m
invariant-loop-m l = list_all (is_right_field l.pool l.forms l.class_flags) (take l.m-index l.members) ≡ true
