use Rattle.std.proofs.Common.{◌≡◌, length}
use Rattle.method_flow.specs.Flow.{targets_of_call}
use Rattle.cert_checker.specs.Telling.{IsSummary, told}
use Rattle.cert_checker.proofs.Pushing.{EachAgrees}
use Rattle.cert_checker.proofs.summaries.summaries.Given as goal

abbrev pub invariant-loop-call : goal.invariant-loop-call
invariant-loop-call l = record {
  long : length l.summaries.items ≡ l.call-index;
  each : EachAgrees (λ c s. IsSummary (told l.t c.place) (targets_of_call l.t.task.now.flow c) s) l.calls l.summaries.items;
}
