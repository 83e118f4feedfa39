use Rattle.std.proofs.Common.{◌≡◌, take}
use Rattle.std.specs.List.{flat_map}
use Rattle.class_lookup.specs.Parts.{same_text}
use Rattle.program_tables.specs.Lists.{with_items}
use Rattle.program_tables.specs.Marks.{AreLiterals}
use Rattle.program_tables.specs.Numbers.{string_in, constant_entry}
use Rattle.program_tables.proofs.mentions.add_fields.Given as goal

abbrev pub invariant-loop-field : goal.invariant-loop-field
invariant-loop-field l = record {
  strings : l.literals.strings
      ≡ with_items same_text l.fn.literals.strings (flat_map (λ f. string_in l.class.pool (constant_entry l.class f)) (take l.field-index l.class.fields));
  added : AreLiterals l.classes l.literals;
}
