use Rattle.section_index.proofs.Moving.{AreMovedBelow}
use Rattle.section_index.proofs.crossing_sets.classes.move_numbers.Given as goal

abbrev pub invariant-loop-i : goal.invariant-loop-i
invariant-loop-i l = AreMovedBelow l.set l.places l.base l.initial.class l.class l.i
