use Rattle.std.proofs.Common.{◌≡◌, ◌^◌, ◌<◌, map, take, drop}
use Rattle.bytecode_model.specs.Program.{is_of}
use Rattle.program_tables.specs.Numbers.{types_of}
use Rattle.program_tables.specs.Resolved.{resolved}
use Rattle.program_tables.specs.Tables.{kind_seen}
use Rattle.image_words.specs.Regions.{number_of_bits}
use Rattle.image_words.proofs.types.supertype_bits.Given as goal

abbrev pub invariant-loop-bit : goal.invariant-loop-bit
invariant-loop-bit l = record {
  word : l.word ≡ number_of_bits (map (is_of (resolved l.classes) (kind_seen l.kind)) (take l.bit (drop l.first (types_of l.classes))));
  small : l.word < 2 ^ l.bit;
}
