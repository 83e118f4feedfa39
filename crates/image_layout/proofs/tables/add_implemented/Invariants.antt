use Rattle.std.proofs.Common.{◌≡◌, ◌++◌, map, take}
use Rattle.image_words.specs.Layout.{outline_of}
use Rattle.image_words.specs.Regions.{implemented_place}
use Rattle.image_layout.proofs.tables.add_implemented.Given as goal

abbrev pub invariant-loop-i : goal.invariant-loop-i
invariant-loop-i l = l.words.items ≡ l.fn.words.items ++ map (implemented_place l.program (outline_of l.program) l.class) (take l.i l.methods)
