use Rattle.std.proofs.Common.{◌≡◌, ℕ, ◌<◌, All, Some}
use Rattle.std.specs.Prelude.{slice_get}
use Rattle.method_flow.specs.Flow.{targets_of_call}
use Rattle.method_flow.specs.declared.flow.Call.{Call}
use Rattle.call_regions.specs.Walking.{IsDone, AreWalked}
use Rattle.call_regions.proofs.walk.next_left.Given as goal

abbrev pub invariant-loop-i : goal.invariant-loop-i
invariant-loop-i l = record {
  walked : AreWalked l.f l.states l.walked.items;
  earlier : (j : ℕ) (c : Call) → j < l.i → slice_get l.calls j ≡ Some c → All (IsDone l.states) (targets_of_call l.f c);
}
