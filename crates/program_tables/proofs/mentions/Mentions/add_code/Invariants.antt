use Rattle.std.proofs.Common.{◌≡◌, [], take}
use Rattle.std.specs.Option.{option_map_or}
use Rattle.std.specs.List.{flat_map}
use Rattle.bytecode_model.specs.Types.{same_kind}
use Rattle.class_lookup.specs.Parts.{same_text}
use Rattle.program_tables.specs.Instructions.{placed_at, named_in}
use Rattle.program_tables.specs.Lists.{with_items}
use Rattle.program_tables.specs.Marks.{AreMentions}
use Rattle.program_tables.specs.Numbers.{arrays_mentioned_by, string_in, constant_named}
use Rattle.program_tables.specs.Tables.{kinds_of}
use Rattle.program_tables.proofs.mentions.Mentions.add_code.Given as goal

abbrev pub invariant-loop-pc : goal.invariant-loop-pc
invariant-loop-pc l = record {
  types : kinds_of l.self.arrays.types
      ≡ with_items same_kind (kinds_of l.fn.self.arrays.types) (flat_map (λ pc. option_map_or (arrays_mentioned_by l.texts l.class) (placed_at l.code pc) []) (take l.pc-index l.pc-items));
  strings : l.self.literals.strings
      ≡ with_items same_text l.fn.self.literals.strings
      (flat_map (λ pc. option_map_or (λ p. string_in l.class.pool (constant_named (named_in l.class p.instr))) (placed_at l.code pc) []) (take l.pc-index l.pc-items));
  added : AreMentions l.texts l.self;
}
