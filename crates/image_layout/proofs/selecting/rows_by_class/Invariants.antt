use Rattle.std.proofs.Common.{take}
use Rattle.image_words.specs.Slots.{slots}
use Rattle.image_layout.specs.Rows.{AreRows}
use Rattle.image_layout.proofs.selecting.rows_by_class.Given as goal

abbrev pub invariant-loop-class : goal.invariant-loop-class
invariant-loop-class l = AreRows l.hierarchy (slots l.hierarchy) (take l.class-index l.order) l.rows.items
