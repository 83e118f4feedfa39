use Rattle.path_solver.proofs.BoundedReach.{reached_within_bounds}
use Rattle.path_solver.proofs.laws.reached_within_bounds.Goals as goal

pub returns : goal.returns
returns c = reached_within_bounds c.headers_dominate_members.ensures
