use Rattle.std.proofs.Common.{ℕ, ◌<◌, get_or}
use Rattle.section_index.specs.Classes.{HasPlace}
use Rattle.section_index.proofs.crossing_sets.classes.note_places.Given as goal

abbrev pub invariant-loop-i : goal.invariant-loop-i
invariant-loop-i l =
    (j : ℕ) → j < l.i → HasPlace l.set l.class l.places l.i (get_or l.set j 0)
