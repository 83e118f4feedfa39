use Rattle.std.proofs.Common.{ℕ, ◌<◌, get_or}
use Rattle.section_check.specs.Conditions.{ExitHolds}
use Rattle.section_check.proofs.descent.failing_exit.Given as goal

abbrev pub invariant-loop-i : goal.invariant-loop-i
invariant-loop-i l =
    (j : ℕ) → j < l.i → ExitHolds l.costs l.s (get_or l.exits j 0)
