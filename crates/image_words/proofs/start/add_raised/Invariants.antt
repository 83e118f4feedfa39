use Rattle.std.proofs.Common.{◌≡◌, ◌++◌, List, take}
use Rattle.std.specs.List.{flat_map}
use Rattle.class_pool.specs.declared.class.ClassFile.{ClassFile}
use Rattle.image_facts.specs.Words.{object_image}
use Rattle.program_tables.specs.Core.{raised_classes}
use Rattle.program_tables.specs.Resolved.{raised_object, resolved}
use Rattle.program_tables.specs.Resolving.{IsResolved}
use Rattle.image_words.specs.Outline.{IsOutline}
use Rattle.image_words.specs.Layout.{type_place, outline_of}
use Rattle.image_words.specs.Regions.{first_place}
use Rattle.image_words.proofs.start.add_raised.Given as goal

abbrev pub invariant-loop-class : goal.invariant-loop-class
invariant-loop-class l =
    (cs : List ClassFile)
    → IsResolved cs
    → IsOutline cs l.outline
    → l.words.items ≡ l.fn.words.items ++ flat_map (λ c. object_image (resolved cs) (type_place cs) (first_place cs (outline_of cs)) (raised_object cs c)) (take l.class-index raised_classes)
