-- The loops of a nest with what an iteration of each costs at most.
use Rattle.std.specs.Prelude.{ℕ, false, List, [], ◌∷◌}
use Rattle.loop_nest.specs.Nest.{NaturalLoop}
use Rattle.section_check.specs.Section.{CertifiedLoop}

-- each loop with its iteration cost; none is marked as a region
abbrev pub certified : List NaturalLoop → List ℕ → List CertifiedLoop
certified [] iteration_costs = []
certified (l ∷ ls) [] = []
certified (l ∷ ls) (iteration_cost ∷ iteration_costs) = record { header = l.header; iteration_cost = iteration_cost; members = l.members; region = false }
    ∷ certified ls iteration_costs
