use Rattle.std.proofs.Common.{◌≡◌, length}
use Rattle.image_layout.proofs.RowLemmas.{AreSoFar}
use Rattle.image_layout.proofs.selecting.row_of.Given as goal

abbrev pub invariant-loop-i : goal.invariant-loop-i
invariant-loop-i l = (length l.row.items ≡ l.i) × AreSoFar l.hierarchy l.class l.methods l.row.items
