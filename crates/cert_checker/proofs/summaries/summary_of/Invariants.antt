use Rattle.std.proofs.Common.{take}
use Rattle.cert_checker.specs.Telling.{IsSummary, told}
use Rattle.cert_checker.proofs.summaries.summary_of.Given as goal

abbrev pub invariant-loop-x : goal.invariant-loop-x
invariant-loop-x l = IsSummary (told l.t l.call.place) (take l.x-index l.x-items) l.summary
