use Rattle.section_check.specs.Section.{priced}
use Rattle.section_check.proofs.Sound.{sound}
use Rattle.section_check.proofs.Iterating.{iteration_bounded}
use Rattle.section_check.proofs.laws.accepted_bound_iterations.Goals as goal

pub returns : goal.returns
returns c = λ g costs s bounds loads a l has reached z at ns iteration.
    iteration_bounded c.dominance_is_antisymmetric.ensures g costs s (priced s.loops bounds loads) (sound g s bounds loads a.placed) a.edges l has reached z at ns iteration
