use Rattle.std.proofs.Common.{ℕ, ◌<◌, get_or}
use Rattle.section_check.specs.Placing.{EntersAside}
use Rattle.section_index.proofs.aside.leads_aside.Given as goal

abbrev pub invariant-loop-i : goal.invariant-loop-i
invariant-loop-i l =
    (j : ℕ) → j < l.i → ¬ EntersAside l.loops (get_or l.edges j (0, 0)).0 (get_or l.edges j (0, 0)).1
