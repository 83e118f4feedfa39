use Rattle.std.proofs.Common.{◌≡◌, ◌++◌, take}
use Rattle.std.specs.List.{flat_map}
use Rattle.program_tables.specs.Resolved.{resolved_methods}
use Rattle.image_words.specs.Layout.{outline_of}
use Rattle.image_words.specs.Regions.{method_image}
use Rattle.image_layout.proofs.methods.add_methods.Given as goal

abbrev pub invariant-loop-method : goal.invariant-loop-method
invariant-loop-method l = l.words.items ≡ l.fn.words.items ++ flat_map (method_image l.program (outline_of l.program)) (take l.method (resolved_methods l.program))
