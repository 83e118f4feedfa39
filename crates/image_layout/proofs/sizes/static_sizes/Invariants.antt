use Rattle.std.proofs.Common.{◌≡◌, map, take}
use Rattle.std.specs.List.{filter_map}
use Rattle.image_facts.specs.Words.{declared_words}
use Rattle.program_tables.specs.Numbers.{static_fields}
use Rattle.program_tables.specs.Resolved.{declared_at}
use Rattle.image_layout.proofs.sizes.static_sizes.Given as goal

abbrev pub invariant-loop-index : goal.invariant-loop-index
invariant-loop-index l = l.sizes.items ≡ map declared_words (filter_map (declared_at l.program) (take l.index (static_fields l.program)))
