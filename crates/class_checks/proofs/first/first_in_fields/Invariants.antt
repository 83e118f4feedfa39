use Rattle.std.proofs.Common.{◌≡◌, [], take}
use Rattle.std.specs.List.{flat_map, enumerate_from}
use Rattle.class_checks.specs.Causes.{unsupported_at_field}
use Rattle.class_checks.proofs.first.first_in_fields.Given as goal

abbrev pub invariant-loop-field : goal.invariant-loop-field
invariant-loop-field l = record {
  number : l.number ≡ l.field-index;
  none : flat_map (unsupported_at_field l.class) (take l.number (enumerate_from 0 l.class.fields)) ≡ [];
}
