use Rattle.std.proofs.Common.{◌≡◌, length, All}
use Rattle.method_flow.specs.Flow.{targets_of_call}
use Rattle.bound_finder.specs.Telling.{IsToldBy, IsSmallTold}
use Rattle.bound_finder.proofs.Pushed.{EachAgrees}
use Rattle.bound_finder.proofs.telling.calls_told.Given as goal

abbrev pub invariant-loop-call : goal.invariant-loop-call
invariant-loop-call l = record {
  long : length l.told.items ≡ l.call-index;
  each : EachAgrees (λ c s. IsToldBy l.table l.back (targets_of_call l.f c) s) l.calls l.told.items;
  small : All IsSmallTold l.told.items;
}
