use Rattle.std.proofs.Common.{◌≡◌, [], take}
use Rattle.std.specs.List.{flat_map, enumerate_from}
use Rattle.class_checks.specs.Causes.{unsupported_in_method}
use Rattle.class_checks.proofs.first.first_in_methods.Given as goal

abbrev pub invariant-loop-method : goal.invariant-loop-method
invariant-loop-method l = record {
  number : l.number ≡ l.method-index;
  none : flat_map (unsupported_in_method l.class) (take l.number (enumerate_from 0 l.class.methods)) ≡ [];
}
