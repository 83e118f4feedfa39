use Rattle.std.proofs.Common.{◌≡◌, [], take}
use Rattle.std.specs.List.{flat_map}
use Rattle.program_tables.specs.Unresolved.{FieldDescriptor}
use Rattle.unresolved_names.specs.Causes.{refused_mention}
use Rattle.unresolved_names.proofs.mentions.first_in_fields.Given as goal

abbrev pub invariant-loop-field : goal.invariant-loop-field
invariant-loop-field l = flat_map (λ f. refused_mention l.namer.texts.now l.namer.number l.namer.class.now (FieldDescriptor f)) (take l.field-index l.namer.class.now.fields) ≡ []
