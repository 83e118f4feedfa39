use Rattle.std.proofs.Common.{◌≡◌, map, take}
use Rattle.std.specs.List.{filter_map}
use Rattle.program_tables.specs.Numbers.{static_fields}
use Rattle.program_tables.specs.Resolved.{first_value}
use Rattle.array_fields.specs.First.{is_null}
use Rattle.array_fields.proofs.first.nulls.Given as goal

abbrev pub invariant-loop-index : goal.invariant-loop-index
invariant-loop-index l = l.nulls.items ≡ map is_null (filter_map (first_value l.program) (take l.index (static_fields l.program)))
