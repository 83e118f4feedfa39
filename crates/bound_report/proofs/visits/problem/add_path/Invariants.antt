use Rattle.std.proofs.Common.{get_or}
use Rattle.bound_report.proofs.VisitsLemmas.PathLemmas.{IsAdding}
use Rattle.bound_report.proofs.visits.problem.add_path.Given as goal

abbrev pub ghost-before : goal.ghost-before
ghost-before g a = g.inside

abbrev pub invariant-loop-u : goal.invariant-loop-u
invariant-loop-u g l = IsAdding l.q l.dist g.inside l.start l.end l.count l.fn.visits l.visits l.u

abbrev pub decreases-loop-u : goal.decreases-loop-u
decreases-loop-u g l = get_or l.q.found.now.topology.places.items l.u 0
