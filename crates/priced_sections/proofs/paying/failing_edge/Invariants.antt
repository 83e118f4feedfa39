use Rattle.std.proofs.Common.{ℕ, ◌<◌, get_or}
use Rattle.priced_sections.specs.Paid.{EdgePays}
use Rattle.priced_sections.specs.Views.{costs_of, back_of, section_of, loops_in}
use Rattle.priced_sections.proofs.paying.failing_edge.Given as goal

abbrev pub invariant-loop-i : goal.invariant-loop-i
invariant-loop-i l = (j : ℕ) → j < l.i → EdgePays (costs_of l.q) (back_of l.q) (section_of l.q) (loops_in l.q) (get_or l.edges j (0, 0)).0 (get_or l.edges j (0, 0)).1
