use Rattle.std.proofs.Common.{ℕ, ◌<◌}
use Rattle.bound_causes.specs.Naming.{IsAskedIn}
use Rattle.bound_causes.proofs.asking.asked.Given as goal

abbrev pub invariant-loop-m : goal.invariant-loop-m
invariant-loop-m l = (k : ℕ) → k < l.m → IsAskedIn l.f l.name k → ⊥
