use Rattle.std.proofs.Common.{◌≡◌}
use Rattle.bytecode_model.specs.Types.{same_kind}
use Rattle.program_tables.specs.Kinds.{arrays_of}
use Rattle.program_tables.specs.Lists.{with_items}
use Rattle.program_tables.specs.Numbers.{reference_arrays}
use Rattle.program_tables.specs.Tables.{kinds_of, base_kind}
use Rattle.program_tables.proofs.mentions.add_arrays.Given as goal

abbrev pub invariant-loop-below : goal.invariant-loop-below
invariant-loop-below l = kinds_of l.types ≡ with_items same_kind (kinds_of l.fn.types) (reference_arrays (arrays_of l.below (base_kind l.kind.base)))
