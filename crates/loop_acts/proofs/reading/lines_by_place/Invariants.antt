use Rattle.loop_acts.proofs.Filling.{AreFilled}
use Rattle.loop_acts.proofs.reading.lines_by_place.Given as goal

abbrev pub invariant-loop-place : goal.invariant-loop-place
invariant-loop-place l = AreFilled l.method l.place-items l.place-index l.lines.items
