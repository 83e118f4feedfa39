use Rattle.std.proofs.Common.{◌≡◌, ◌++◌, map, take}
use Rattle.image_words.specs.Layout.{outline_of}
use Rattle.image_words.specs.Regions.{code_place}
use Rattle.image_layout.proofs.tables.add_places.Given as goal

abbrev pub invariant-loop-selected : goal.invariant-loop-selected
invariant-loop-selected l = l.words.items ≡ l.fn.words.items ++ map (λ s. code_place l.program (outline_of l.program) s.place) (take l.selected-index l.row)
