use Rattle.cert_checker.proofs.Adding.{AreAddedTo}
use Rattle.cert_checker.proofs.prepared.add.Given as goal

abbrev pub invariant-loop-i : goal.invariant-loop-i
invariant-loop-i l = AreAddedTo l.fn.costs l.calls l.summaries l.i l.costs
