use Rattle.std.proofs.Common.{◌≡◌, length}
use Rattle.path_solver.specs.Distances.{AreLimited}
use Rattle.bound_report.specs.Visits.Paths.{IsPosed}
use Rattle.bound_report.proofs.VisitsLemmas.RoundLemmas.{IsGoing}
use Rattle.bound_report.proofs.visits.rounds.go_through.Given as goal

abbrev pub invariant-loop-u : goal.invariant-loop-u
invariant-loop-u l = record {
  going : (posed : IsPosed l.q) → IsGoing l.q posed l.u-index l.visits l.entered;
  dist_long : length l.dist ≡ l.q.g.now.nodes;
  dist_limited : AreLimited l.dist;
}
