-- What accepted sections show.
use Rattle.std.specs.Prelude.{◌≡◌, ℕ, ◌≤◌, ℤ, List, map, All, Contains, Option, Some, None, MatchOption}
use Rattle.loop_nest.specs.Digraph.{Digraph, Edge}
use Rattle.loop_nest.specs.Walks.{Walk, IsReachable, IsHeader, KeepsBound}
use Rattle.section_check.specs.Bounded.{BoundedLoop, IsBoundedWalk, IsKept, cost_of, IsIteration, cost_of_iteration}
use Rattle.section_check.specs.Section.{Certified, PricedLoop, priced, bounded, potential}
use Rattle.section_check.specs.Placing.{AreWellPlaced}
use Rattle.section_check.specs.Conditions.{IsAccepted, value_of}

-- no bounded walk costs more than this value, and where there is no value there is no such walk
abbrev pub BoundsWalks : Digraph → List ℕ → List BoundedLoop → Option ℕ → Type 0
BoundsWalks g costs loops value = (ns : List ℕ) → IsBoundedWalk g loops ns → MatchOption value ⊥ (λ most. cost_of costs loops ns ≤ most)

-- the loops of a section as far as walks speak of them
abbrev pub loops_of : Certified → List ℕ → List (Option ℕ) → List BoundedLoop
loops_of c bounds loads = map bounded (priced c.loops bounds loads)

-- A walk in a part of the graph that keeps the bounds of that part's own loops keeps those of the section's loops, whichever these are.
abbrev pub OwnBoundsSuffice : Type 0
OwnBoundsSuffice =
    (g part : Digraph) (c : Certified) (bounds : List ℕ) (loads : List (Option ℕ)) → AreWellPlaced g c bounds loads → ((u v : ℕ) → Edge part u v → Edge g u v)
    → (last : ℕ) (ns : List ℕ) → Walk part 0 last ns → ((l : PricedLoop) → Contains (priced c.loops bounds loads) l → IsHeader part l.certified.header
    → KeepsBound part l.certified.header l.bound ns)
    → All (IsKept ns) (loops_of c bounds loads)

-- where an accepted section has no value, no exit is reached from node 0, whatever the bounds
abbrev pub NoValueNoExit : Type 0
NoValueNoExit =
    (g : Digraph) (costs : List ℕ) (c : Certified) (bounds : List ℕ) (loads : List (Option ℕ)) → IsAccepted g costs c bounds loads
    → value_of c (priced c.loops bounds loads) ≡ None
    → (exit : ℕ) (ns : List ℕ) → Contains g.exits exit → ¬ Walk g 0 exit ns

-- no bounded walk costs more than the value of an accepted section, and where it has none there is no such walk
abbrev pub AcceptedBoundWalks : Type 0
AcceptedBoundWalks =
    (g : Digraph) (costs : List ℕ) (c : Certified) (bounds : List ℕ) (loads : List (Option ℕ)) → IsAccepted g costs c bounds loads
    → BoundsWalks g costs (loops_of c bounds loads) (value_of c (priced c.loops bounds loads))

-- in an accepted section, no iteration of a loop whose header is reached and listed costs more than the section says of the loop
abbrev pub AcceptedBoundIterations : Type 0
AcceptedBoundIterations =
    (g : Digraph) (costs : List ℕ) (c : Certified) (bounds : List ℕ) (loads : List (Option ℕ)) → IsAccepted g costs c bounds loads
    → (l : PricedLoop) → Contains (priced c.loops bounds loads) l → IsReachable g l.certified.header → (p : ℤ) → potential c.nodes l.certified.header ≡ Some p
    → (ns : List ℕ) → IsIteration g (loops_of c bounds loads) (bounded l) ns → cost_of_iteration costs (loops_of c bounds loads) ns ≤ l.certified.iteration_cost
