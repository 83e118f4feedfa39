use Rattle.std.proofs.Common.{◌≡◌, ◌++◌, List, length}
use Rattle.source_places.specs.declared.tables.starts.LineStart.{LineStart}
use Rattle.source_places.specs.Tables.Lines.{starts_in, nearest}
use Rattle.source_places.proofs.tables.starts.nearest_in.Given as goal

abbrev pub invariant-loop-left : goal.invariant-loop-left
invariant-loop-left l =
    (es : List LineStart) → l.fn.before ≡ nearest l.place es
    → (done : List LineStart) × (done ++ starts_in l.left ≡ starts_in l.fn.entries) × (l.found ≡ nearest l.place (es ++ done))

abbrev pub decreases-loop-left : goal.decreases-loop-left
decreases-loop-left l = length l.left
