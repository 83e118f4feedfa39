use Rattle.std.proofs.Common.{◌≡◌, ℕ, ◌*◌, ◌<◌, get_or}
use Rattle.memory_bound.specs.Setting.{ForEach, lengths_in}
use Rattle.memory_bound.specs.Found.{HasArrayLength}
use Rattle.memory_bound.specs.Lengths.{AreOn}
use Rattle.memory_bound.proofs.lengths.first_unlimited.Given as goal

abbrev pub invariant-loop-node : goal.invariant-loop-node
invariant-loop-node l = ForEach l.task (λ P. AreOn P l.m l.nodes → (k : ℕ) → k < l.node-index → (p : ℕ) → 2 * p ≡ get_or l.nodes k 0 → HasArrayLength P (lengths_in l.task) l.m p)
