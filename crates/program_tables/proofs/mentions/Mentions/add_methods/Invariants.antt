use Rattle.std.proofs.Common.{◌≡◌, take}
use Rattle.std.specs.List.{flat_map}
use Rattle.bytecode_model.specs.Types.{same_kind}
use Rattle.class_lookup.specs.Parts.{same_text}
use Rattle.program_tables.specs.Instructions.{instructions_of, named_in}
use Rattle.program_tables.specs.Lists.{with_items}
use Rattle.program_tables.specs.Marks.{AreMentions}
use Rattle.program_tables.specs.Numbers.{arrays_mentioned_by, string_in, constant_named}
use Rattle.program_tables.specs.Tables.{kinds_of}
use Rattle.program_tables.proofs.mentions.Mentions.add_methods.Given as goal

abbrev pub invariant-loop-method : goal.invariant-loop-method
invariant-loop-method l = record {
  types : kinds_of l.self.arrays.types
      ≡ with_items same_kind (kinds_of l.fn.self.arrays.types) (flat_map (λ m. flat_map (arrays_mentioned_by l.texts l.class) (instructions_of m)) (take l.method-index l.class.methods));
  strings : l.self.literals.strings
      ≡ with_items same_text l.fn.self.literals.strings
      (flat_map (λ m. flat_map (λ p. string_in l.class.pool (constant_named (named_in l.class p.instr))) (instructions_of m)) (take l.method-index l.class.methods));
  added : AreMentions l.texts l.self;
}
