use Rattle.std.proofs.Common.{◌≡◌, ◌++◌, take, length, replicate}
use Rattle.std.specs.List.{flat_map}
use Rattle.image_words.specs.Layout.{classes_of, outline_of}
use Rattle.image_words.specs.Slots.{interface_methods}
use Rattle.image_words.specs.Regions.{interface_image}
use Rattle.image_layout.proofs.tables.add_interfaces.Given as goal

abbrev pub invariant-loop-class : goal.invariant-loop-class
invariant-loop-class l =
    l.words.items ≡ (l.fn.words.items ++ replicate (length (interface_methods l.program)) 0) ++ flat_map (interface_image l.program (outline_of l.program)) (take l.class (classes_of l.program))
