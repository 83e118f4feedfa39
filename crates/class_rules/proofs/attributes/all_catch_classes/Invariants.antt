use Rattle.std.proofs.Common.{◌≡◌, true, take}
use Rattle.std.specs.List.{list_all}
use Rattle.class_rules.specs.Tests.{catches_class}
use Rattle.class_rules.proofs.attributes.all_catch_classes.Given as goal

abbrev pub invariant-loop-h : goal.invariant-loop-h
invariant-loop-h l = list_all (λ h. catches_class l.pool h.3) (take l.h-index l.handlers) ≡ true
