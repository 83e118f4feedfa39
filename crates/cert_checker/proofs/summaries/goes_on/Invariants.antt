use Rattle.std.proofs.Common.{◌≡◌, map, take}
use Rattle.cert_checker.proofs.summaries.goes_on.Given as goal

abbrev pub invariant-loop-summary : goal.invariant-loop-summary
invariant-loop-summary l = l.goes.items ≡ map (λ s. s.goes_on) (take l.summary-index l.summaries)
