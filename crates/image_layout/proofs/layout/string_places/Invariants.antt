use Rattle.std.proofs.Common.{◌≡◌, map}
use Rattle.std.specs.List.{range_with_len}
use Rattle.program_tables.specs.Operands.{string_object}
use Rattle.image_words.specs.Layout.{outline_of}
use Rattle.image_words.specs.Regions.{first_place}
use Rattle.image_layout.proofs.layout.string_places.Given as goal

abbrev pub invariant-loop-string : goal.invariant-loop-string
invariant-loop-string l = l.places.items ≡ map (λ n. first_place l.program (outline_of l.program) (string_object n)) (range_with_len 0 l.string)
