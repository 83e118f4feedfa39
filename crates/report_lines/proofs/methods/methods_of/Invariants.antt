use Rattle.std.proofs.Common.{◌≡◌, ℕ, length, Some}
use Rattle.std.specs.Prelude.{slice_get}
use Rattle.report_lines.specs.declared.methods.MethodText.{MethodText}
use Rattle.report_lines.specs.Told.{IsTextOf}
use Rattle.report_lines.proofs.methods.methods_of.Given as goal

abbrev pub invariant-loop-number : goal.invariant-loop-number
invariant-loop-number l = record {
  long : length l.methods.items ≡ l.number;
  each : (m : ℕ) (x : MethodText) → slice_get l.methods.items m ≡ Some x → IsTextOf l.program m x;
}
