use Rattle.path_solver.proofs.BoundedReach.{lies_on_bounded_walk}
use Rattle.path_solver.proofs.laws.lies_on_bounded_walk.Goals as goal

pub returns : goal.returns
returns c = lies_on_bounded_walk c.headers_dominate_members.ensures
