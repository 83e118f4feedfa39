use Rattle.std.proofs.Common.{◌≡◌, ◌-◌, [], map}
use Rattle.std.specs.List.{range_with_len}
use Rattle.bytecode_model.specs.Types.{OfClass, OfNumbers, same_kind}
use Rattle.program_tables.specs.Lists.{with_items}
use Rattle.program_tables.specs.Tables.{kinds_of}
use Rattle.program_tables.proofs.mentions.first_types.Given as goal

abbrev pub invariant-loop-code : goal.invariant-loop-code
invariant-loop-code l = kinds_of l.kinds ≡ with_items same_kind [] (map OfNumbers (range_with_len 4 (l.code - 4)))

abbrev pub invariant-loop-class : goal.invariant-loop-class
invariant-loop-class l = kinds_of l.kinds ≡ with_items same_kind (with_items same_kind [] (map OfNumbers (range_with_len 4 8))) (map OfClass (range_with_len 0 l.class))
