use Rattle.bound_report.proofs.Calling.{AreWritten}
use Rattle.bound_report.proofs.callees.write_callees.Given as goal

abbrev pub invariant-loop-call : goal.invariant-loop-call
invariant-loop-call l = AreWritten l.f l.calls l.table l.back l.without_loads l.call-index l.callees
