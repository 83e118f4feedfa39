use Rattle.std.proofs.Common.{◌≡◌, map, take}
use Rattle.program_tables.specs.Meanings.{types_seen, field_types_in}
use Rattle.program_tables.proofs.shapes.field_types_of.Given as goal

abbrev pub invariant-loop-number : goal.invariant-loop-number
invariant-loop-number l = map types_seen l.made.items ≡ map (field_types_in l.texts) (take l.number l.texts)
