use Rattle.std.proofs.Common.{◌≡◌, map, take}
use Rattle.image_words.specs.Layout.{table_words, classes_of}
use Rattle.image_words.proofs.item_sizes.table_sizes.Given as goal

abbrev pub invariant-loop-class : goal.invariant-loop-class
invariant-loop-class l = l.sizes.items ≡ map (table_words l.classes) (take l.class (classes_of l.classes))
