use Rattle.std.proofs.Common.{◌<◌, ◌^◌}
use Rattle.bytecode_model.specs.Program.{Program}
use Rattle.method_flow.specs.Flow.{IsFlowOf}
use Rattle.fact_rules.proofs.Calling.{IsCallersBelow}
use Rattle.fact_rules.proofs.callers.callers_load.Given as goal

abbrev pub invariant-loop-m : goal.invariant-loop-m
invariant-loop-m l = record { is : (P : Program) → IsFlowOf P l.f → IsCallersBelow P l.read l.root l.m l.greatest; small : l.greatest < 2 ^ 21 }
