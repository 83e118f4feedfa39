-- How often one greatest walk visits each node, and enters each loop.
use Rattle.std.specs.Prelude.{◌≡◌, ℕ, ◌==◌, List, length, count_by, slice_index}
use Rattle.loop_nest.specs.Digraph.{Digraph}
use Rattle.section_check.specs.Bounded.{BoundedLoop, IsBoundedWalk, cost_of, entries}
use Rattle.section_check.specs.Placing.{IsEntryAt}
use Rattle.path_solver.specs.declared.solved.SolveFault.{SolveFault}
use Rattle.path_solver.specs.declared.solved.SolveFault.TheVariants.{TooLarge, NoMemory}
use Rattle.path_solver.specs.Longest.{WalkExceeds}

-- Some walk keeps the bounds and costs the value; these are its visits and its entries.
pub record AreCounts (g : Digraph) (costs : List ℕ) (loops : List BoundedLoop) (value : ℕ) (visits entered : List ℕ) : Type 0 where
  pub walk : List ℕ
  pub bounded : IsBoundedWalk g loops walk
  pub attained : cost_of costs loops walk ≡ value
  pub visits_long : length visits ≡ g.nodes
  pub visits_are : (u : ℕ) → slice_index visits u ≡ count_by (λ x. x == u) walk
  pub entered_long : length entered ≡ length loops
  pub entered_are : (i : ℕ) (l : BoundedLoop) → IsEntryAt loops i l → slice_index entered i ≡ entries l.members walk

-- a walk that keeps the bounds exceeds 64 bits; of want of memory nothing is said
abbrev pub HasCause : Digraph → List ℕ → List BoundedLoop → SolveFault → Type 0
HasCause g costs loops TooLarge = WalkExceeds g costs loops
HasCause g costs loops NoMemory = Unit {0}
