use Rattle.std.proofs.Common.{◌≡◌, map, take}
use Rattle.std.specs.List.{filter_map}
use Rattle.program_tables.specs.Numbers.{instance_fields}
use Rattle.program_tables.specs.Resolved.{declared_at}
use Rattle.array_fields.specs.First.{is_reference}
use Rattle.array_fields.proofs.first.references.Given as goal

abbrev pub invariant-loop-index : goal.invariant-loop-index
invariant-loop-index l = l.references.items ≡ map is_reference (filter_map (declared_at l.program) (take l.index (instance_fields l.program l.class)))
