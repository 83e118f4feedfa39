use Rattle.std.proofs.Common.{◌≡◌, ℕ, ◌*◌, ◌<◌, length, Contains}
use Rattle.std.specs.Prelude.{IsTrue, ◌↔◌, slice_index_or, slice_get, Some, false}
use Rattle.loop_nest.specs.Nest.{NaturalLoop}
use Rattle.memory_rules.specs.Heap.{PlaceMakesObjects}
use Rattle.memory_bound.specs.Setting.{ForEach}
use Rattle.memory_bound.specs.Shapes.{members_in}
use Rattle.memory_bound.specs.Found.{BeginInstructions, KnowMaking}
use Rattle.memory_bound.proofs.making.making_loops.Given as goal

abbrev pub invariant-loop-l : goal.invariant-loop-l
invariant-loop-l l = (length l.making.items ≡ l.l-index) × ForEach l.task (λ P. KnowMaking P l.table l.m
    → (k : ℕ) (x : NaturalLoop) → k < l.l-index → slice_get l.l-items k ≡ Some x → BeginInstructions P l.m (members_in l.nodes x)
    → IsTrue (slice_index_or l.making.items k false) ↔ ((p : ℕ) × Contains (members_in l.nodes x) (2 * p) × PlaceMakesObjects P l.m p))
