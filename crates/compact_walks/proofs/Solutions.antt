-- What a solution says of a graph.
use Rattle.std.proofs.Common.{map, Option, Some, None, IfSome, IfNone}
use Rattle.std.specs.Prelude.{OnSome, Ok}
use Rattle.section_check.specs.Bounded.{IsGreatest}
use Rattle.section_check.specs.Section.{IsInForm}
use Rattle.section_check.specs.Conditions.{IsSectionAnswer}
use Rattle.path_solver.specs.Reaching.{ReachesExit}
use Rattle.path_solver.specs.Longest.{WalksAreTooLarge}
use Rattle.path_solver.specs.Regions.{AreRegionsApart, AreMarkedLoopsOf}
use Rattle.path_solver.specs.Solution.{Solution}
use Rattle.compact_walks.specs.Solving.{Problem, fees_of, loops_of, answer_of, IsWalkAnswer}

pub answers : (p : Problem) (o : Option Solution) → IfNone o (ReachesExit p.graph 0 → ⊥) → OnSome o (ReachesExit p.graph 0) → (WalksAreTooLarge p.graph p.costs (loops_of p) → ⊥) → IfSome o (λ s. IsGreatest p.graph p.costs (loops_of p) s.value)
    → IfSome o (λ s. AreMarkedLoopsOf p.nest p.regions s.section.loops) → IfSome o (λ s. IsInForm s.section p.bounds (map Some (fees_of p)))
    → IfSome o (λ s. AreRegionsApart p.nest p.regions → IsSectionAnswer p.graph p.costs s.section p.bounds (map Some (fees_of p)) (Ok (Some s.value))) → IsWalkAnswer p (answer_of o)
answers p None unreached reached fits greatest loops form shown = unreached
answers p (Some s) unreached reached fits greatest loops form shown = record { reached = reached; small = fits; greatest = greatest; loops = loops; form = form; accepted = shown }
