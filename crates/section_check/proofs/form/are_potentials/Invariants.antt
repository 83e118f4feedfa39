use Rattle.std.proofs.Common.{ℕ, ◌<◌, pos, get_or}
use Rattle.section_check.specs.Section.{IsPotential}
use Rattle.section_check.proofs.form.are_potentials.Given as goal

abbrev pub invariant-loop-i : goal.invariant-loop-i
invariant-loop-i l = (k : ℕ) → k < l.i → IsPotential (get_or l.nodes k (0, pos 0)).1
