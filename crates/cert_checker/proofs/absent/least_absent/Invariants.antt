use Rattle.section_check.specs.Least.{IsLeast}
use Rattle.cert_checker.proofs.Lacking.{IsAbsentUnder}
use Rattle.cert_checker.proofs.absent.least_absent.Given as goal

abbrev pub invariant-loop-i : goal.invariant-loop-i
invariant-loop-i l = IsLeast (IsAbsentUnder l.calls l.summaries l.nodes l.i) l.least
