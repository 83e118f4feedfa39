use Rattle.std.proofs.Common.{◌≡◌, map, take}
use Rattle.class_checks.specs.Descriptors.{method_item, of_entry}
use Rattle.class_checks.proofs.tables.method_items.Given as goal

abbrev pub invariant-loop-entry : goal.invariant-loop-entry
invariant-loop-entry l = l.items.items ≡ map (of_entry method_item) (take l.entry-index l.pool)
