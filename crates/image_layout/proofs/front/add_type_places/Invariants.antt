use Rattle.std.proofs.Common.{◌≡◌, ◌++◌, List, map}
use Rattle.std.specs.List.{range_with_len}
use Rattle.class_pool.specs.declared.class.ClassFile.{ClassFile}
use Rattle.image_words.specs.Layout.{type_place}
use Rattle.image_words.specs.Outline.{IsOutline}
use Rattle.image_layout.proofs.front.add_type_places.Given as goal

abbrev pub invariant-loop-number : goal.invariant-loop-number
invariant-loop-number l = (cs : List ClassFile) → IsOutline cs l.outline → l.words.items ≡ l.fn.words.items ++ map (type_place cs) (range_with_len 0 l.number)
