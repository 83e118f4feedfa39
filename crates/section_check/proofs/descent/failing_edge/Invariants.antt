use Rattle.std.proofs.Common.{ℕ, ◌<◌, get_or}
use Rattle.section_check.specs.Section.{priced}
use Rattle.section_check.specs.Conditions.{EdgeHolds}
use Rattle.section_check.proofs.descent.failing_edge.Given as goal

abbrev pub invariant-loop-i : goal.invariant-loop-i
invariant-loop-i l =
    (j : ℕ) → j < l.i → EdgeHolds l.costs l.s (priced l.s.loops l.bounds l.loads) (get_or l.edges j (0, 0)).0 (get_or l.edges j (0, 0)).1
