use Rattle.std.proofs.Common.{◌≡◌, [], reverse}
use Rattle.std.specs.Prelude.{nat_eq}
use Rattle.std.specs.List.{flat_map, range_with_len}
use Rattle.class_lookup.specs.Hierarchy.{superclasses}
use Rattle.program_tables.specs.Lists.{with_items}
use Rattle.program_resolution.proofs.initialization.initialization_order.Given as goal

abbrev pub invariant-loop-class : goal.invariant-loop-class
invariant-loop-class l = l.order ≡ with_items nat_eq [] (flat_map (λ c. reverse (superclasses l.classes c)) (range_with_len 0 l.class))
