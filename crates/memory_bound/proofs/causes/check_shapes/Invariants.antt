use Rattle.std.proofs.Common.{ℕ, [], Contains, take}
use Rattle.bytecode_model.specs.Program.{Program}
use Rattle.method_flow.specs.Flow.{IsFlowOf}
use Rattle.bound_rules.specs.Bounding.{IsLeftWith}
use Rattle.memory_bound.proofs.causes.check_shapes.Given as goal

abbrev pub invariant-loop-m : goal.invariant-loop-m
invariant-loop-m l = (P : Program) → IsFlowOf P l.f → (x : ℕ) → Contains (take l.m-index l.methods) x → IsLeftWith P x []
