-- What is found of a graph whose loops are bounded and charged: no exit is reached, or its greatest walk has a section that shows it, or numbers are too large.
use Rattle.std.specs.Prelude.{ℕ, Bool, List, map, Option, None, Some, Ok, MatchOption}
use Rattle.loop_nest.specs.Digraph.{Digraph}
use Rattle.loop_nest.specs.Nest.{NaturalLoop}
use Rattle.section_check.specs.Bounded.{BoundedLoop, IsGreatest}
use Rattle.section_check.specs.Section.{IsInForm}
use Rattle.section_check.specs.Conditions.{IsSectionAnswer}
use Rattle.path_solver.specs.Reaching.{ReachesExit}
use Rattle.path_solver.specs.Longest.{bounded_loops, WalkExceeds, IterationsExceed, WalksAreTooLarge}
use Rattle.path_solver.specs.Regions.{charged, AreRegionsApart, AreMarkedLoopsOf}
use Rattle.path_solver.specs.Solution.{Solution}
use Rattle.compact_walks.specs.declared.solving.Answer.{Answer}
use Rattle.compact_walks.specs.declared.solving.Answer.TheVariants.{Never, Shown, Exceeds}

-- a graph, the loops of it, what its nodes cost, how often each loop goes round at most, what its entry loads where it is charged, and whether it is
pub record Problem : Type 0 where
  pub graph : Digraph
  pub nest : List NaturalLoop
  pub costs : List ℕ
  pub bounds : List ℕ
  pub loads : List ℕ
  pub regions : List Bool

-- what an entry of each loop is charged
abbrev pub fees_of : Problem → List ℕ
fees_of p = charged p.loads p.regions

abbrev pub loops_of : Problem → List BoundedLoop
loops_of p = bounded_loops p.nest p.bounds (fees_of p)

-- the greatest walk with a section that shows it, where neither a walk nor iterations exceed 64 bits
pub record IsShownWalk (p : Problem) (s : Solution) : Type 0 where
  pub reached : ReachesExit p.graph 0
  pub small : ¬ WalksAreTooLarge p.graph p.costs (loops_of p)
  pub greatest : IsGreatest p.graph p.costs (loops_of p) s.value
  pub loops : AreMarkedLoopsOf p.nest p.regions s.section.loops
  pub form : IsInForm s.section p.bounds (map Some (fees_of p))
  pub accepted : AreRegionsApart p.nest p.regions → IsSectionAnswer p.graph p.costs s.section p.bounds (map Some (fees_of p)) (Ok (Some s.value))

-- a walk exceeds 64 bits; or the greatest walk doesn't, and iterations do
abbrev pub IsExceeding : Digraph → List ℕ → List BoundedLoop → Option ℕ → Type 0
IsExceeding g costs loops value = MatchOption value (WalkExceeds g costs loops) (λ n. IsGreatest g costs loops n × IterationsExceed g costs loops)

-- what is answered where numbers are too large, if an exit is reached
abbrev pub IsLargeAnswer : Digraph → List ℕ → List BoundedLoop → Answer → Type 0
IsLargeAnswer g costs loops Never = ¬ ReachesExit g 0
IsLargeAnswer g costs loops (Shown s) = ⊥
IsLargeAnswer g costs loops (Exceeds value) = ReachesExit g 0 × IsExceeding g costs loops value

-- the answer to a solution, where there is one
abbrev pub answer_of : Option Solution → Answer
answer_of None = Never
answer_of (Some s) = Shown s

abbrev pub IsWalkAnswer : Problem → Answer → Type 0
IsWalkAnswer p Never = ¬ ReachesExit p.graph 0
IsWalkAnswer p (Shown s) = IsShownWalk p s
IsWalkAnswer p (Exceeds value) = ReachesExit p.graph 0 × IsExceeding p.graph p.costs (loops_of p) value
