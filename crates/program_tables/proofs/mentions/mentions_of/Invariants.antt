use Rattle.std.proofs.Common.{◌≡◌, [], length, take}
use Rattle.std.specs.List.{flat_map}
use Rattle.bytecode_model.specs.Types.{same_kind}
use Rattle.class_lookup.specs.Parts.{same_text}
use Rattle.program_tables.specs.Lists.{with_items}
use Rattle.program_tables.specs.Marks.{AreMentions}
use Rattle.program_tables.specs.Numbers.{arrays_mentioned_in, first_types, strings_in}
use Rattle.program_tables.specs.Tables.{kinds_of}
use Rattle.program_tables.proofs.mentions.mentions_of.Given as goal

abbrev pub invariant-loop-number : goal.invariant-loop-number
invariant-loop-number l = record {
  types : kinds_of l.mentions.arrays.types ≡ with_items same_kind (first_types (length l.texts)) (flat_map (arrays_mentioned_in l.texts) (take l.number l.texts));
  strings : l.mentions.literals.strings ≡ with_items same_text [] (flat_map strings_in (take l.number l.texts));
  added : AreMentions l.texts l.mentions;
}
