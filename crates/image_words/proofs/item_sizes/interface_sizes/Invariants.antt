use Rattle.std.proofs.Common.{◌≡◌, map, take}
use Rattle.image_words.specs.Layout.{interface_words, classes_of}
use Rattle.image_words.proofs.item_sizes.interface_sizes.Given as goal

abbrev pub invariant-loop-class : goal.invariant-loop-class
invariant-loop-class l = l.sizes.items ≡ map (interface_words l.classes) (take l.class (classes_of l.classes))
