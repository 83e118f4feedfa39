use Rattle.std.proofs.Common.{◌≡◌, map, take}
use Rattle.program_tables.specs.Numbers.{fields_by_number}
use Rattle.image_words.specs.Layout.{outline_of}
use Rattle.image_words.specs.Pools.{static_word}
use Rattle.image_layout.proofs.layout.field_places.Given as goal

abbrev pub invariant-loop-number : goal.invariant-loop-number
invariant-loop-number l = l.places.items ≡ map (static_word l.program (outline_of l.program)) (take l.number (fields_by_number l.program))
