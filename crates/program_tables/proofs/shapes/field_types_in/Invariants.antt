use Rattle.std.proofs.Common.{◌≡◌, map, take}
use Rattle.class_pool.specs.Grammar.{text_at}
use Rattle.program_tables.specs.Kinds.{field_declared}
use Rattle.program_tables.specs.Meanings.{types_seen}
use Rattle.program_tables.proofs.shapes.field_types_in.Given as goal

abbrev pub invariant-loop-field : goal.invariant-loop-field
invariant-loop-field l = types_seen l.made.items ≡ map (λ f. field_declared l.texts (text_at l.class.pool f.descriptor)) (take l.field-index l.class.fields)
