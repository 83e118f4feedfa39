use Rattle.std.proofs.Common.{take}
use Rattle.call_regions.specs.Tables.{IsTargetOf}
use Rattle.fact_rules.proofs.callers.one_may_run.Given as goal

abbrev pub invariant-loop-call : goal.invariant-loop-call
invariant-loop-call l = IsTargetOf l.f (take l.call-index l.calls) l.target → ⊥
