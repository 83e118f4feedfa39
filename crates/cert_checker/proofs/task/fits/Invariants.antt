use Rattle.std.proofs.Common.{◌≡◌, ℕ, length, Some, slice_get}
use Rattle.bytecode_model.specs.Program.{Program}
use Rattle.method_flow.specs.Flow.{IsFlowOf}
use Rattle.cert_checker.specs.declared.task.Fit.{Fit}
use Rattle.cert_checker.specs.Setting.{IsFit}
use Rattle.cert_checker.proofs.task.fits.Given as goal

abbrev pub invariant-loop-m : goal.invariant-loop-m
invariant-loop-m l = record {
  long : length l.fits.items ≡ l.m;
  each : (P : Program) → IsFlowOf P l.f → (m : ℕ) (fit : Fit) → slice_get l.fits.items m ≡ Some fit → IsFit P l.t m fit;
}
