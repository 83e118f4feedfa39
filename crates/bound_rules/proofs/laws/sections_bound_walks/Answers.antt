use Rattle.bound_rules.proofs.Walking.{sections_bound_walks}
use Rattle.bound_rules.proofs.laws.sections_bound_walks.Goals as goal

pub returns : goal.returns
returns c = sections_bound_walks c.live_edges_stay.ensures c.own_bounds_suffice.ensures c.accepted_bound_walks.ensures
