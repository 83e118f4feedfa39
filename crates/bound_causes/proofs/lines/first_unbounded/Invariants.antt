use Rattle.std.proofs.Common.{take}
use Rattle.bytecode_model.specs.Program.{Program}
use Rattle.method_flow.specs.Flow.{IsFlowOf}
use Rattle.node_costs.specs.Costs.{bounds_of}
use Rattle.bound_causes.specs.Causes.{AreSearched}
use Rattle.bound_causes.proofs.lines.first_unbounded.Given as goal

abbrev pub invariant-loop-m : goal.invariant-loop-m
invariant-loop-m l = (P : Program) → IsFlowOf P l.f → AreSearched P (bounds_of l.f l.b) (take l.m-index l.methods) l.found
