use Rattle.std.proofs.Common.{◌≡◌, map, take}
use Rattle.std.specs.List.{filter_map}
use Rattle.program_tables.specs.Kinds.{declared_of}
use Rattle.program_tables.specs.Meanings.{declared_seen}
use Rattle.program_tables.proofs.text_type.all_declared.Given as goal

abbrev pub invariant-loop-of : goal.invariant-loop-of
invariant-loop-of l = map declared_seen l.all.items ≡ filter_map (declared_of l.classes) (take l.of-index l.types)
