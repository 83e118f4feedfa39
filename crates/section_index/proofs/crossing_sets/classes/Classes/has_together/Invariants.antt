use Rattle.std.proofs.Common.{◌≡◌, ℕ, ◌<◌, get_or}
use Rattle.section_index.specs.Classes.{class_of}
use Rattle.section_index.proofs.crossing_sets.classes.Classes.has_together.Given as goal

abbrev pub invariant-loop-i : goal.invariant-loop-i
invariant-loop-i l =
    (j : ℕ) → j < l.i → class_of l.self (get_or l.set j 0) ≡ class_of l.self (get_or l.set 0 0)
