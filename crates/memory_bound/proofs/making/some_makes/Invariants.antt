use Rattle.std.proofs.Common.{◌≡◌, ℕ, ◌<◌, true, get_or}
use Rattle.memory_bound.specs.Found.{found_at}
use Rattle.memory_bound.proofs.making.some_makes.Given as goal

abbrev pub invariant-loop-t : goal.invariant-loop-t
invariant-loop-t l = (k : ℕ) → k < l.t-index → (found_at l.table (get_or l.targets k 0)).makes ≡ true → ⊥
