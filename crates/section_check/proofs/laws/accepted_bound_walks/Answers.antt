use Rattle.section_check.specs.Section.{priced}
use Rattle.section_check.proofs.Sound.{sound}
use Rattle.section_check.proofs.Bounding.{value_bounds}
use Rattle.section_check.proofs.laws.accepted_bound_walks.Goals as goal

pub returns : goal.returns
returns c = λ g costs s bounds loads a. value_bounds g costs s (priced s.loops bounds loads) (sound g s bounds loads a.placed) a.edges a.exits
