use Rattle.bound_laws.proofs.Greatest.{greatest_walks_exist}
use Rattle.bound_laws.proofs.laws.greatest_walks_exist.Goals as goal

pub returns : goal.returns
returns c = greatest_walks_exist c.loops_are_nested.ensures c.reached_within_bounds.ensures
