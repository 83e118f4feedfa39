use Rattle.std.proofs.Common.{◌≡◌, ◌++◌, take}
use Rattle.std.specs.List.{flat_map, enumerate_from}
use Rattle.program_tables.specs.Numbers.{types_of}
use Rattle.image_words.specs.Layout.{outline_of}
use Rattle.image_words.specs.Regions.{type_image}
use Rattle.image_words.proofs.types.add_types.Given as goal

abbrev pub invariant-loop-number : goal.invariant-loop-number
invariant-loop-number l = l.words.items ≡ l.fn.words.items ++ flat_map (type_image l.classes (outline_of l.classes)) (take l.number (enumerate_from 0 (types_of l.classes)))
