-- What holds of each nest whose loops have bounds.
use Rattle.std.specs.Prelude.{◌≡◌, ℕ, List, All, Contains}
use Rattle.loop_nest.specs.Digraph.{Digraph}
use Rattle.loop_nest.specs.Walks.{Walk, IsReachable}
use Rattle.loop_nest.specs.Nest.{NaturalLoop, IsNest}
use Rattle.section_check.specs.Bounded.{BoundedLoop, IsKept, IsBoundedWalk}
use Rattle.path_solver.specs.Longest.{bounded_loops}

-- a walk leads from u to an exit and keeps the bounds that are 0; where none is, any walk to an exit does
pub record LeadsOut (g : Digraph) (loops : List BoundedLoop) (u : ℕ) : Type 0 where
  pub exit : ℕ
  pub among : Contains g.exits exit
  pub nodes : List ℕ
  pub walk : Walk g u exit nodes
  pub kept : (l : BoundedLoop) → Contains loops l → l.bound ≡ 0 → IsKept nodes l

-- a node that is reached is reached by a walk that keeps all bounds
abbrev pub ReachedWithinBounds : Type 0
ReachedWithinBounds =
    (g : Digraph) (nest : List NaturalLoop) (bounds loads : List ℕ) → IsNest g nest → (u : ℕ) → IsReachable g u
    → (ns : List ℕ) × Walk g 0 u ns × All (IsKept ns) (bounded_loops nest bounds loads)

-- one from which a walk leads out lies on a bounded walk
abbrev pub LiesOnBoundedWalk : Type 0
LiesOnBoundedWalk =
    (g : Digraph) (nest : List NaturalLoop) (bounds loads : List ℕ) → IsNest g nest → (u : ℕ) → IsReachable g u → LeadsOut g (bounded_loops nest bounds loads) u
    → (ns : List ℕ) × IsBoundedWalk g (bounded_loops nest bounds loads) ns × Contains ns u
