use Rattle.std.proofs.Common.{◌≡◌, ℕ, ◌*◌, ◌≤◌, All, Contains, length, take}
use Rattle.std.specs.Prelude.{slice_index}
use Rattle.call_regions.specs.Calling.{IsTargetsFirst}
use Rattle.memory_rules.specs.Stack.{IsStackNeedOf}
use Rattle.memory_bound.specs.Setting.{ForEach}
use Rattle.memory_bound.proofs.stacks.stacks.Given as goal

abbrev pub invariant-loop-m : goal.invariant-loop-m
invariant-loop-m l = (length l.stacks.items ≡ length l.task.flow.methods) × (l.most ≡ l.m-index * 4294967296) × All (λ n. n ≤ l.most) l.stacks.items
    × ForEach l.task (λ P. IsTargetsFirst P P.boot l.order → (x : ℕ) → Contains (take l.m-index l.order) x → IsStackNeedOf P x (slice_index l.stacks.items x))
