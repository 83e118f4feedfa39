-- What the proof of heap needs takes of all graphs.
use Rattle.std.specs.Prelude.{◌≢◌, ℕ, List, []}
use Rattle.loop_nest.specs.Laws.{HeaderDominatesMembers, LoopsAreNested, DominanceIsAntisymmetric}
use Rattle.bytecode_model.specs.Program.{Program}
use Rattle.path_solver.specs.Laws.{ReachedWithinBounds}
use Rattle.bound_rules.specs.Bounding.{IsLeftWith}
use Rattle.bound_rules.specs.Laws.{GraphsAreOne, HeadersAreInstructions}
use Rattle.compact_walks.specs.Laws.{GraphsAreMoved, MovedIsNest}

pub record AreHeapLaws : Type 0 where
  pub moves : GraphsAreMoved
  pub nests : MovedIsNest
  pub one : GraphsAreOne
  pub instructions : HeadersAreInstructions
  pub dominates : HeaderDominatesMembers
  pub nested : LoopsAreNested
  pub antisymmetric : DominanceIsAntisymmetric
  pub within : ReachedWithinBounds

-- the reduction of a method's graph doesn't leave nodes and none
abbrev pub LeavesNodesOrNone : Type 0
LeavesNodesOrNone = (P : Program) (m : ℕ) (nodes : List ℕ) → IsLeftWith P m nodes → nodes ≢ [] → ¬ IsLeftWith P m []
