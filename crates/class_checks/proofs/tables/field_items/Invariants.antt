use Rattle.std.proofs.Common.{◌≡◌, map, take}
use Rattle.class_checks.specs.Descriptors.{field_item, of_entry}
use Rattle.class_checks.proofs.tables.field_items.Given as goal

abbrev pub invariant-loop-entry : goal.invariant-loop-entry
invariant-loop-entry l = l.items.items ≡ map (of_entry field_item) (take l.entry-index l.pool)
