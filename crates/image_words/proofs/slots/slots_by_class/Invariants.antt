use Rattle.std.proofs.Common.{take}
use Rattle.image_words.specs.Tables.{AreMade}
use Rattle.image_words.proofs.slots.slots_by_class.Given as goal

abbrev pub invariant-loop-class : goal.invariant-loop-class
invariant-loop-class l = AreMade l.classes l.signatures (take l.class-index l.order) l.table.items
