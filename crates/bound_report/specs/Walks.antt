-- A greatest walk of a method that was prepared, with its counts; and where there is none.
use Rattle.std.specs.Prelude.{◌≡◌, ◌⊎◌, ◌<◌}
use Rattle.section_check.specs.Bounded.{IsGreatest}
use Rattle.bound_rules.specs.declared.faults.BoundRefusal.{BoundRefusal}
use Rattle.bound_rules.specs.declared.faults.BoundRefusal.TheVariants.{NoMemory}
use Rattle.compact_walks.specs.Limited.{cycles_limit, AreSmallAt}
use Rattle.compact_walks.specs.Solving.{loops_of}
use Rattle.bound_report.specs.declared.visits.WalkCounts.{WalkCounts}
use Rattle.bound_report.specs.Visits.Counts.{AreCounts}
use Rattle.bound_finder.specs.declared.prepared.Prepared.{Prepared}
use Rattle.bound_finder.specs.declared.found.Walked.TheVariants.{Never, Large}
use Rattle.bound_finder.specs.Found.{costs_of, problem_of, IsWalked}

-- each node costs less than 2^64, and so does the greatest walk, of which these are the counts
pub record AreWalkCounts (p : Prepared) (w : WalkCounts) : Type 0 where
  pub small : AreSmallAt p.shape.nodes p.costs.items
  pub greatest : IsGreatest p.shape.graph (costs_of p) (loops_of (problem_of p)) w.value
  pub below : w.value < cycles_limit
  pub counts : AreCounts p.shape.graph (costs_of p) (loops_of (problem_of p)) w.value w.visits.items w.entered.items

-- no walk ends, or a node or a walk costs too much; of want of memory nothing is said
abbrev pub IsNotWalked : Prepared → BoundRefusal → Type 0
IsNotWalked p fault = (fault ≡ NoMemory) ⊎ (IsWalked p Never ⊎ IsWalked p (Large cycles_limit))
