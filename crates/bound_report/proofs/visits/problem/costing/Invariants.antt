use Rattle.std.proofs.Common.{◌≢◌, ℕ, ◌+◌, ◌<◌, get_or}
use Rattle.bound_report.proofs.visits.problem.costing.Given as goal

abbrev pub invariant-loop-u : goal.invariant-loop-u
invariant-loop-u l = (k : ℕ) → k < l.u-index → get_or l.costs (get_or l.nodes k 0) 0 + get_or l.dist (get_or l.nodes k 0) 0 ≢ l.cost
