use Rattle.std.proofs.Common.{◌≡◌, ℕ, length, Option, Some}
use Rattle.std.specs.Prelude.{slice_get}
use Rattle.answer_lines.specs.declared.bound.BoundCause.{BoundCause}
use Rattle.method_bounds.specs.Leasts.{leasts_at}
use Rattle.method_bounds.specs.Sorting.{IsCauseOf}
use Rattle.method_bounds.specs.Walking.{state_of}
use Rattle.method_bounds.proofs.sorting.causes_of.Given as goal

abbrev pub invariant-loop-m : goal.invariant-loop-m
invariant-loop-m l = record {
  long : length l.causes.items ≡ l.m;
  each : (k : ℕ) (cause : Option BoundCause) → slice_get l.causes.items k ≡ Some cause → IsCauseOf l.loops (state_of l.states k) (leasts_at l.leasts k) cause;
}
