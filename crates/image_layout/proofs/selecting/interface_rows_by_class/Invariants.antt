use Rattle.std.proofs.Common.{take}
use Rattle.image_layout.specs.Rows.{AreRows, table_methods}
use Rattle.image_layout.proofs.selecting.interface_rows_by_class.Given as goal

abbrev pub invariant-loop-class : goal.invariant-loop-class
invariant-loop-class l = AreRows l.hierarchy (table_methods l.hierarchy) (take l.class-index l.order) l.rows.items
