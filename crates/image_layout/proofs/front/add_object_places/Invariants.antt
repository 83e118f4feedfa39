use Rattle.std.proofs.Common.{◌≡◌, ◌++◌, List, map}
use Rattle.std.specs.List.{range_with_len}
use Rattle.class_pool.specs.declared.class.ClassFile.{ClassFile}
use Rattle.image_words.specs.Layout.{outline_of}
use Rattle.image_words.specs.Regions.{first_place}
use Rattle.image_words.specs.Outline.{IsOutline}
use Rattle.image_layout.proofs.front.add_object_places.Given as goal

abbrev pub invariant-loop-object : goal.invariant-loop-object
invariant-loop-object l = (cs : List ClassFile) → IsOutline cs l.outline → l.words.items ≡ l.fn.words.items ++ map (first_place cs (outline_of cs)) (range_with_len 0 l.object)
