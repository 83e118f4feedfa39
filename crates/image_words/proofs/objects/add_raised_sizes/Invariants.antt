use Rattle.std.proofs.Common.{◌≡◌, ◌++◌, List, map, take}
use Rattle.bytecode_model.specs.Sizes.{object_words}
use Rattle.class_pool.specs.declared.class.ClassFile.{ClassFile}
use Rattle.image_words.specs.Outline.{AreInstances}
use Rattle.program_tables.specs.Resolving.{IsResolved}
use Rattle.program_tables.specs.Core.{raised_classes}
use Rattle.program_tables.specs.Resolved.{raised_object, resolved}
use Rattle.image_words.proofs.objects.add_raised_sizes.Given as goal

abbrev pub invariant-loop-class : goal.invariant-loop-class
invariant-loop-class l = (cs : List ClassFile) → IsResolved cs → AreInstances cs l.instances → l.sizes.items ≡ l.fn.sizes.items ++ map (λ c. object_words (resolved cs) (raised_object cs c)) (take l.class-index raised_classes)
