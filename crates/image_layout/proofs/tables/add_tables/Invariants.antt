use Rattle.std.proofs.Common.{◌≡◌, ◌++◌, take}
use Rattle.std.specs.List.{flat_map}
use Rattle.image_words.specs.Layout.{classes_of, outline_of}
use Rattle.image_words.specs.Regions.{table_image}
use Rattle.image_layout.proofs.tables.add_tables.Given as goal

abbrev pub invariant-loop-class : goal.invariant-loop-class
invariant-loop-class l = l.words.items ≡ l.fn.words.items ++ flat_map (table_image l.program (outline_of l.program)) (take l.class (classes_of l.program))
