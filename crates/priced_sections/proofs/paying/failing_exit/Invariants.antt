use Rattle.std.proofs.Common.{ℕ, ◌<◌, get_or}
use Rattle.priced_sections.specs.Paid.{ExitPays}
use Rattle.priced_sections.specs.Views.{costs_of, back_of, section_of}
use Rattle.priced_sections.proofs.paying.failing_exit.Given as goal

abbrev pub invariant-loop-i : goal.invariant-loop-i
invariant-loop-i l = (j : ℕ) → j < l.i → ExitPays (costs_of l.q) (back_of l.q) (section_of l.q) (get_or l.exits j 0)
