-- What the greatest walk of a graph is asked: its value, one iteration of each loop, and when these are too large.
use Rattle.std.specs.Prelude.{◌≡◌, ℕ, ◌^◌, ◌≤◌, false, List, [], ◌∷◌, map, filter, sum_by, All, Contains}
use Rattle.path_solver.specs.declared.solved.SolveFault.{SolveFault}
use Rattle.path_solver.specs.declared.solved.SolveFault.TheVariants.{TooLarge, NoMemory}
use Rattle.loop_nest.specs.Digraph.{Digraph}
use Rattle.loop_nest.specs.Nest.{NaturalLoop}
use Rattle.section_check.specs.Bounded.{BoundedLoop, holds, cost_of, IsBoundedWalk, IsIteration, cost_of_iteration}
use Rattle.section_check.specs.Section.{CertifiedLoop}
use Rattle.path_solver.specs.Reaching.{ReachesExit}

-- the loops of a nest with their bounds and loads
abbrev pub bounded_loops : List NaturalLoop → List ℕ → List ℕ → List BoundedLoop
bounded_loops [] bounds loads = []
bounded_loops (l ∷ ls) [] loads = []
bounded_loops (l ∷ ls) (bound ∷ bounds) [] = []
bounded_loops (l ∷ ls) (bound ∷ bounds) (load ∷ loads) = record { header = l.header; members = l.members; bound = bound; load = load }
    ∷ bounded_loops ls bounds loads

-- the loops of a section are those of a nest, in its order, and none is marked as a region
pub record AreLoopsOf (nest : List NaturalLoop) (loops : List CertifiedLoop) : Type 0 where
  pub headers : map (λ l. l.header) loops ≡ map (λ l. l.header) nest
  pub members : map (λ l. l.members) loops ≡ map (λ l. l.members) nest
  pub regions : All (λ l. l.region ≡ false) loops

-- the loops that hold a node
abbrev pub around : List BoundedLoop → ℕ → List BoundedLoop
around loops u = filter (λ l. holds l.members u) loops

-- a walk that keeps the bounds exceeds 64 bits
pub record WalkExceeds (g : Digraph) (costs : List ℕ) (loops : List BoundedLoop) : Type 0 where
  pub walk : List ℕ
  pub bounded : IsBoundedWalk g loops walk
  pub exceeds : 2 ^ 64 ≤ cost_of costs loops walk

-- iterations exceed 64 bits together, one of each loop that holds a node from which an exit is reached
pub record IterationsExceed (g : Digraph) (costs : List ℕ) (loops : List BoundedLoop) : Type 0 where
  pub node : ℕ
  pub reaches : ReachesExit g node
  pub iteration : BoundedLoop → List ℕ
  pub are : (l : BoundedLoop) → Contains (around loops node) l → IsIteration g loops l (iteration l)
  pub exceeds : 2 ^ 64 ≤ sum_by (λ l. cost_of_iteration costs loops (iteration l)) (around loops node)

pub data WalksAreTooLarge (g : Digraph) (costs : List ℕ) (loops : List BoundedLoop) : Type 0 where
  walk : WalkExceeds g costs loops → WalksAreTooLarge g costs loops
  iterations : IterationsExceed g costs loops → WalksAreTooLarge g costs loops

-- a number is too large; of want of memory nothing is said
abbrev pub HasSolveCause : Digraph → List ℕ → List BoundedLoop → SolveFault → Type 0
HasSolveCause g costs loops TooLarge = WalksAreTooLarge g costs loops
HasSolveCause g costs loops NoMemory = Unit {0}
