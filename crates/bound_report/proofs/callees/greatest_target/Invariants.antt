use Rattle.std.proofs.Common.{take}
use Rattle.bound_finder.specs.Known.{known_at}
use Rattle.bound_report.specs.Callees.{number_by}
use Rattle.bound_report.proofs.Choosing.{IsBest}
use Rattle.bound_report.proofs.callees.greatest_target.Given as goal

abbrev pub invariant-loop-x : goal.invariant-loop-x
invariant-loop-x l = IsBest (λ x. number_by l.pays (known_at l.table x)) (take l.x-index l.targets) l.best
