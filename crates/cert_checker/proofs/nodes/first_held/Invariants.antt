use Rattle.section_check.specs.Least.{IsLeast}
use Rattle.cert_checker.proofs.Least.{IsHeldUnder}
use Rattle.cert_checker.proofs.nodes.first_held.Given as goal

abbrev pub invariant-loop-l : goal.invariant-loop-l
invariant-loop-l l = IsLeast (IsHeldUnder l.flags l.loops l.l-index) l.least
