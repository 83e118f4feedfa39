use Rattle.std.proofs.Common.{◌≡◌, take}
use Rattle.std.specs.Prelude.{count_by}
use Rattle.class_rules.specs.Tests.{is_constant_value}
use Rattle.class_rules.proofs.attributes.constants_of.Given as goal

abbrev pub invariant-loop-a : goal.invariant-loop-a
invariant-loop-a l = l.count ≡ count_by (is_constant_value) (take l.a-index l.attributes)
