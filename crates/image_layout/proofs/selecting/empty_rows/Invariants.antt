use Rattle.std.proofs.Common.{◌≡◌, length}
use Rattle.image_layout.proofs.selecting.empty_rows.Given as goal

abbrev pub invariant-loop-class : goal.invariant-loop-class
invariant-loop-class l = length l.rows.items ≡ l._class
