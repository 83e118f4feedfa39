use Rattle.std.proofs.Common.{◌≡◌, map, take}
use Rattle.image_words.specs.Layout.{method_size}
use Rattle.program_tables.specs.Resolved.{resolved_methods}
use Rattle.image_layout.proofs.sizes.method_sizes.Given as goal

abbrev pub invariant-loop-method : goal.invariant-loop-method
invariant-loop-method l = l.sizes.items ≡ take l.method (map method_size (resolved_methods l.program))
