use Rattle.std.proofs.Common.{◌≡◌, ℕ, ◌*◌, ◌<◌, get_or}
use Rattle.memory_rules.specs.Heap.{PlaceMakesObjects}
use Rattle.memory_bound.specs.Setting.{ForEach}
use Rattle.memory_bound.specs.Found.{BeginInstructions, KnowMaking}
use Rattle.memory_bound.proofs.making.some_node_makes.Given as goal

abbrev pub invariant-loop-node : goal.invariant-loop-node
invariant-loop-node l = ForEach l.task (λ P. BeginInstructions P l.m l.nodes → KnowMaking P l.table l.m
    → (k : ℕ) → k < l.node-index → (p : ℕ) → 2 * p ≡ get_or l.nodes k 0 → PlaceMakesObjects P l.m p → ⊥)
