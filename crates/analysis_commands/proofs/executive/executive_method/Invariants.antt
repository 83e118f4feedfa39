use Rattle.std.proofs.Common.{ℕ, ◌<◌}
use Rattle.bound_causes.specs.Naming.{IsNamedBy}
use Rattle.analysis_commands.specs.Executive.{executive_name}
use Rattle.analysis_commands.proofs.executive.executive_method.Given as goal

abbrev pub invariant-loop-m : goal.invariant-loop-m
invariant-loop-m l = (k : ℕ) → k < l.m → IsNamedBy l.flow executive_name k → ⊥
