use Rattle.std.proofs.Common.{◌≡◌, ◌≤◌, length, take}
use Rattle.std.specs.List.{filter}
use Rattle.program_tables.specs.Numbers.{is_coded, methods_by_number}
use Rattle.image_layout.proofs.limits.coded_methods.Given as goal

abbrev pub invariant-loop-method : goal.invariant-loop-method
invariant-loop-method l = record {
  count : l.coded ≡ length (filter (is_coded l.program) (take l.method (methods_by_number l.program)));
  small : l.coded ≤ l.method;
}
