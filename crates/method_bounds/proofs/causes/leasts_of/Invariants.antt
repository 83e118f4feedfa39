use Rattle.std.proofs.Common.{◌≡◌, length, take}
use Rattle.bytecode_model.specs.Program.{Program}
use Rattle.method_flow.specs.Flow.{IsFlowOf}
use Rattle.method_bounds.specs.Leasts.{AreFound}
use Rattle.method_bounds.proofs.causes.leasts_of.Given as goal

abbrev pub invariant-loop-m : goal.invariant-loop-m
invariant-loop-m l = record {
  long : length l.found.methods.items ≡ length l.f.methods;
  found : (P : Program) → IsFlowOf P l.f → AreFound l.f l.loops P (take l.m-index l.order) l.found;
}
